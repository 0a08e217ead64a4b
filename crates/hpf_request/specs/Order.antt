-- The order of tests: the words, then the text that was loaded, from its first fault to what it means. A row presumes
-- that those above it were passed.
use Rattle.std.specs.Prelude.{◌≡◌, ◌≤◌, ◌+◌, nat_le, nat_lt, ℕ, List, [], length, Option, Some, None, if◌then◌else◌}
use Rattle.hpf_frame.specs.FrameFile.{version_one, elements}
use Rattle.hpf_gen.specs.Generated.{generated}
use Rattle.hpf_io.specs.Files.{Files, HasFront}
use Rattle.hpf_io.specs.States.{LoaderState}
use Rattle.hpf_lex.specs.Statement.{max_text}
use Rattle.hpf_lex.specs.declared.refusal.MapRefusal.{MapRefusal}
use Rattle.hpf_map.specs.declared.program.Need.TheVariants.{Mapping, Pipeline}
use Rattle.hpf_map.specs.Built.{not_built}
use Rattle.hpf_map.specs.Program.{counts_of}
use Rattle.hpf_map.specs.Refusal.{refusal}
use Rattle.hpf_own.specs.Held.{owned_part, held_part}
use Rattle.hpf_own.specs.Mapping.{PlainMapping}
use Rattle.hpf_own.specs.Space.{product}
use Rattle.hpf_report.specs.LocalText.{local_text}
use Rattle.hpf_report.specs.OwnersText.{owners_text}
use Rattle.hpf_status.specs.declared.status.Status.{Status}
use Rattle.hpf_status.specs.declared.status.Status.TheVariants as status
use Rattle.hpf_status.specs.Statuses.{refusal_status}
use Rattle.hpf_syntax.specs.Canonical.{canonical}
use Rattle.hpf_syntax.specs.Plain.{ItemTree}
use Rattle.hpf_syntax.specs.Parsed.{Says, IsFaultOf}
use Rattle.hpf_words.specs.declared.asked.Asked.{Asked}
use Rattle.hpf_words.specs.Words.{AsksFor}
use Rattle.hpf_request.specs.declared.words.Action.{Action}
use Rattle.hpf_request.specs.declared.words.Action.TheVariants as action
use Rattle.hpf_request.specs.CountsText.{counts_text}
use Rattle.hpf_request.specs.Deed.{Deed, Print, Compose, Stream}
use Rattle.hpf_request.specs.Form.{Form, IsFormOf}
use Rattle.hpf_request.specs.Named.{IsNamed}
use Rattle.hpf_request.specs.Pipeline.{flow_of}
use Rattle.hpf_request.specs.Stages.{run_refusal}
use Rattle.hpf_request.specs.Words.{Asks, built}

-- what is to be done, or the status by which it is refused
pub data Verdict : Type 0 where
  Granted : Deed → Verdict
  Denied : Status → Verdict

-- the refusal of what statements mean, for an action that resolves them
abbrev pub refused_by : Action → List ItemTree → Option MapRefusal
refused_by action.Show items = None
refused_by action.Check items = refusal Mapping items
refused_by (action.Owners name) items = refusal Mapping items
refused_by (action.Local name p) items = refusal Mapping items
refused_by action.Run items = run_refusal items
refused_by (action.Make frames seed) items = refusal Pipeline items

-- the most elements that an array has whose frames run
abbrev pub most_elements : ℕ
most_elements = 65536

-- what comes of a form whose frames are to run: it has too many elements, or it runs
abbrev pub run_verdict : Form → Verdict
run_verdict form =
    if nat_le (elements form.extents) most_elements then Granted (Stream (flow_of form)) else Denied (refusal_status not_built)

-- what comes of the mapping whose owners are to be told, and of that whose part is to be: there is none by that name,
-- or it has no such processor, or it is told
abbrev pub owners_verdict : Option PlainMapping → Verdict
owners_verdict None = Denied (status.Usage 2)
owners_verdict (Some m) = Granted (Print (owners_text m) [])

abbrev pub local_verdict : ℕ → Option PlainMapping → Verdict
local_verdict p None = Denied (status.Usage 2)
local_verdict p (Some m) =
    if nat_lt p (product m.procs) then Granted (Print (local_text (owned_part m p).indices (held_part m p).indices) [])
    else Denied (status.Usage 3)

-- what comes of a form for which frames are made: their file, of which a front is given before the rest is made
abbrev pub make_verdict : (frames seed : ℕ) → Form → Verdict
make_verdict frames seed form = Granted (Compose (generated version_one form.extents seed frames))

-- what statements come to that an action does not refuse for what they mean
abbrev pub Comes : Action → List ItemTree → Verdict → Type 0
Comes action.Show items verdict = verdict ≡ Granted (Print (canonical items) [])
Comes action.Check items verdict = verdict ≡ Granted (Print (counts_text (counts_of items)) [])
Comes (action.Owners name) items verdict = (m : Option PlainMapping) × IsNamed items name m
    × (verdict ≡ owners_verdict m)
Comes (action.Local name p) items verdict = (m : Option PlainMapping) × IsNamed items name m
    × (verdict ≡ local_verdict p m)
Comes action.Run items verdict = (form : Form) × IsFormOf items form × (verdict ≡ run_verdict form)
Comes (action.Make frames seed) items verdict = (form : Form) × IsFormOf items form
    × (verdict ≡ make_verdict frames seed form)

-- What comes of a text when this is asked of it: a fault refuses it, or what it means does, or it comes to what the
-- action makes of it.
pub data Judges (asked : Action) (text : List ℕ) (verdict : Verdict) : Type 0 where
  Faulty : (r : MapRefusal) → IsFaultOf text r → verdict ≡ Denied (refusal_status r) → Judges asked text verdict
  Refused : (items : List ItemTree) → Says text items → (r : MapRefusal) → refused_by asked items ≡ Some r
      → verdict ≡ Denied (refusal_status r) → Judges asked text verdict
  Passed : (items : List ItemTree) → Says text items → refused_by asked items ≡ None → Comes asked items verdict
      → Judges asked text verdict

-- statements come to a verdict, whatever text says them
abbrev pub Decides : Action → List ItemTree → Verdict → Type 0
Decides asked items verdict = (text : List ℕ) → Says text items → Judges asked text verdict

-- The text was loaded under this name: it is no longer than what is asked of a loader, and it is the front of the
-- file, where the files are told, and else some text.
pub record IsLoaded (loader : LoaderState) (name text : List ℕ) : Type 0 where
  pub within : length text ≤ max_text + 1
  pub front : (all : Files) → loader.files ≡ Some all → HasFront all name (max_text + 1) text

-- what the words and the text that was loaded come to
pub data Order (words : List (List ℕ)) (loader : LoaderState) (verdict : Verdict) : Type 0 where
  NoAction : ((asked : Asked) (name : List ℕ) → ¬ AsksFor words asked name) → verdict ≡ Denied (status.Usage 1)
      → Order words loader verdict
  NotBuilt : (asked : Asked) (name : List ℕ) → AsksFor words asked name → built asked ≡ None
      → verdict ≡ Denied (status.Usage 9) → Order words loader verdict
  OfText : (asked : Action) (name text : List ℕ) → Asks words asked name → IsLoaded loader name text
      → Judges asked text verdict → Order words loader verdict

-- The words and the text come to this deed, and the loader tells its files.
pub record IsGranted (words : List (List ℕ)) (loader : LoaderState) (deed : Deed) : Type 0 where
  pub all : Files
  pub told : loader.files ≡ Some all
  pub order : Order words loader (Granted deed)
