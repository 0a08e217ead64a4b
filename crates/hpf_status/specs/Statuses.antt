-- The statuses that tell what a lower layer answered.
use Rattle.hpf_io.specs.declared.text.LoadError.{LoadError}
use Rattle.hpf_io.specs.declared.text.LoadError.TheVariants as load
use Rattle.hpf_lex.specs.declared.refusal.MapError.{MapError}
use Rattle.hpf_lex.specs.declared.refusal.MapError.TheVariants as text
use Rattle.hpf_lex.specs.declared.refusal.MapRefusal.{MapRefusal}
use Rattle.hpf_words.specs.declared.refusal.WordsError.{WordsError}
use Rattle.hpf_words.specs.declared.refusal.WordsError.TheVariants as words
use Rattle.hpf_status.specs.declared.status.Status.{Status}
use Rattle.hpf_status.specs.declared.status.Status.TheVariants as status

-- a refusal of a mapping text
abbrev pub refusal_status : MapRefusal → Status
refusal_status r = status.MapRefused r.code r.line r.column

-- why words were not read
abbrev pub words_status : WordsError → Status
words_status words.Refused = status.Usage 1
words_status (words.Memory e) = status.OutOfMemory

-- why a text was not loaded
abbrev pub load_status : LoadError → Status
load_status load.Failed = status.LoadFault
load_status (load.Memory e) = status.OutOfMemory

-- why a text was not read
abbrev pub text_status : MapError → Status
text_status (text.Refused r) = refusal_status r
text_status (text.Memory e) = status.OutOfMemory
