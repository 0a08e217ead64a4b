-- Why words are not read.
use Rattle.std.specs.Prelude.{alloc_error}
use Rattle.clap.specs.declared.error.kind.ErrorKind.{ErrorKind}
use Rattle.clap.specs.declared.error.kind.ErrorKind.TheVariants as kind
use Rattle.hpf_words.specs.declared.refusal.WordsError.{WordsError}
use Rattle.hpf_words.specs.declared.refusal.WordsError.TheVariants.{Refused, Memory}

-- an error of `clap`: want of memory, or a refusal for whatever reason, a request for help among them
abbrev pub words_error : ErrorKind → WordsError
words_error kind.OutOfMemory = Memory alloc_error
words_error _ = Refused
