-- What a call of the program promises.
use Rattle.std.specs.Prelude.{◌≡◌, ◌≢◌, ◌⊎◌, ℕ, List, None}
use Rattle.hpf_io.specs.States.{LoaderState}
use Rattle.hpf_request.specs.Deed.{Deed, Compose, IsDue, IsUnreadable}
use Rattle.hpf_request.specs.Loads.{IsFound, IsSafelyFound, LoadFails, LoadsNoFault, KeepsFiles}
use Rattle.hpf_request.specs.Order.{Verdict, Granted, Order, IsGranted}
use Rattle.hpf_request.specs.Words.{built}
use Rattle.hpf_status.specs.declared.status.Status.{Status}
use Rattle.hpf_status.specs.declared.status.Status.TheVariants.{Ok, Usage, WriteFault, LoadFault, OutOfMemory}
use Rattle.hpf_status.specs.Ends.{IsAnswered, OrMemory, IsRefusal}
use Rattle.hpf_stream.specs.Outside.{Outside, Moment, FramesStay}
use Rattle.hpf_words.specs.declared.asked.Asked.{Asked}
use Rattle.hpf_words.specs.Words.{AsksFor}
use Rattle.hpf_cmd.specs.Causes.{Causes, NoneRises, IsSafe}
use Rattle.hpf_cmd.specs.Does.{Follows, Untouched}
use Rattle.hpf_cmd.specs.Prints.{Composes}

-- What memory that ran out left: nothing was touched; or a text was granted that is made while it is given, and so
-- far it was.
abbrev pub LeavesOff : {S K N : Type 0} → Outside S K N → Moment S K N → Moment S K N → List (List ℕ) → LoaderState
    → Type 0
LeavesOff o was now words loader =
    Untouched was now ⊎ ((text : List ℕ) × Order words loader (Granted (Compose text))
    × Composes o was now text OutOfMemory)

-- The promises of a call with these words, whose loader was one and is the other, between these moments, that ended so.
pub record Promises {L S K N : Type 0} (l : L
    → LoaderState) (o : Outside S K N) (words : List (List ℕ)) (before after : L)
    (was now : Moment S K N) (end : Status) : Type 0 where
  -- The words and the text that was loaded come to a verdict, by which something was done, or nothing was touched.
  pub order : IsAnswered end → (verdict : Verdict) × Order words (l after) verdict × Follows o was now verdict end
  -- Words that ask for nothing are refused, and so are words that ask for what isn't built, want of memory apart; the
  -- loader is not touched then.
  pub usage : ((asked : Asked) (name : List ℕ) → ¬ AsksFor words asked name) → OrMemory end (end ≡ Usage 1)
  pub not_built : (asked : Asked) (name : List ℕ) → AsksFor words asked name → built asked ≡ None
      → OrMemory end (end ≡ Usage 9)
  pub unasked : (end ≡ Usage 1) ⊎ (end ≡ Usage 9) → after ≡ before
  -- Where the map was not loaded, or memory ran out, nothing but the loader was touched, or only a front of a text
  -- was given.
  pub unloaded : end ≡ LoadFault → Untouched was now
  pub memory : end ≡ OutOfMemory → LeavesOff o was now words (l after)
  -- The loader.
  pub load_fault : end ≡ LoadFault → LoadFails words (l before) (l after)
  pub loads : end ≢ LoadFault → LoadsNoFault (l before) (l after)
  pub kept : KeepsFiles (l before) (l after)
  -- Whose count of faults rose; and the source had none where a write failed.
  pub causes : Causes o was now end
  pub source_stays : end ≡ WriteFault → FramesStay o was now
  -- It never gives up by itself: where the words, the map and the input are as they should be, and no count rose of
  -- what it uses, all is done, or there is too little memory.
  pub complete : (deed : Deed) (text lines : List ℕ) → IsGranted words (l after) deed
      → IsFound words (l before) (l after)
      → IsDue (o.frames was.frames) (o.frames now.frames) deed text lines → NoneRises o was now deed
      → OrMemory end (end ≡ Ok)
  -- Where the input alone is not as it should be, it is refused, or there is too little memory.
  pub refuses : (deed : Deed) → IsGranted words (l after) deed → IsFound words (l before) (l after)
      → IsUnreadable (o.frames was.frames) (o.frames now.frames) deed → NoneRises o was now deed
      → OrMemory end (IsRefusal end)
  -- Over objects that are sure to do their part all is done, or there is too little memory.
  pub sure : (deed : Deed) (text lines : List ℕ) → IsGranted words (l after) deed → IsSafelyFound words (l before)
      → IsDue (o.frames was.frames) (o.frames now.frames) deed text lines → IsSafe o was now deed text lines
      → OrMemory end (end ≡ Ok)
