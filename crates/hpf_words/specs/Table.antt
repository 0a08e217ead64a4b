-- The table of actions: the word for each, what it needs besides the map, and what it may have. This project defines it.
use Rattle.std.specs.Prelude.{◌≡◌, ◌≤◌, ℕ, List, Option, Some, None, codes, unwrap_or}
use Rattle.hpf_words.specs.declared.asked.Asked.{Asked}
use Rattle.hpf_words.specs.declared.asked.Asked.TheVariants.{Check, Show, Owners, Local, Plan, Run, Parts, Make, Trial}
use Rattle.hpf_words.specs.declared.given.Given.{Given}

-- the word that asks for an action
abbrev pub spelling : Asked → List ℕ
spelling Check = codes "check"
spelling Show = codes "show"
spelling (Owners name) = codes "owners"
spelling (Local name processor) = codes "local"
spelling Plan = codes "plan"
spelling (Run workers) = codes "run"
spelling (Parts stage workers) = codes "parts"
spelling (Make frames seed) = codes "make"
spelling (Trial frames seed workers) = codes "trial"

-- nothing is given
abbrev pub nothing : Given
nothing = record { name = None; processor = None; stage = None; frames = None; seed = None; workers = None }

-- Exactly this is given.
pub record Gives (given wanted : Given) : Type 0 where
  pub name_is : given.name ≡ wanted.name
  pub processor_is : given.processor ≡ wanted.processor
  pub stage_is : given.stage ≡ wanted.stage
  pub frames_is : given.frames ≡ wanted.frames
  pub seed_is : given.seed ≡ wanted.seed
  pub workers_is : given.workers ≡ wanted.workers

abbrev pub IsNothing : Given → Type 0
IsNothing given = Gives given nothing

-- What is given meets the row of the action, and makes it: its needs are there, nothing else is there but what it may
-- have, a seed that isn't there is 0, and a number of workers that isn't there is 1.
abbrev pub IsMet : Asked → Given → Type 0
IsMet Check given = IsNothing given
IsMet Show given = IsNothing given
IsMet (Owners name) given = Gives given (record nothing { name = Some name })
IsMet (Local name processor) given = Gives given (record nothing { name = Some name; processor = Some processor })
IsMet Plan given = IsNothing given
IsMet (Run workers) given = (w : Option ℕ) × Gives given (record nothing { workers = w }) × (workers ≡ unwrap_or w 1)
IsMet (Parts stage workers) given =
    (w : Option ℕ) × Gives given (record nothing { stage = Some stage; workers = w }) × (workers ≡ unwrap_or w 1)
IsMet (Make frames seed) given =
    (s : Option ℕ) × Gives given (record nothing { frames = Some frames; seed = s }) × (seed ≡ unwrap_or s 0)
IsMet (Trial frames seed workers) given =
    (s : Option ℕ) × (w : Option ℕ) × Gives given (record nothing { frames = Some frames; seed = s; workers = w })
    × (seed ≡ unwrap_or s 0) × (workers ≡ unwrap_or w 1)

-- the numbers of an action lie in their ranges
abbrev pub IsInRange : Asked → Type 0
IsInRange (Local name processor) = processor ≤ 63
IsInRange (Run workers) = (1 ≤ workers) × (workers ≤ 64)
IsInRange (Parts stage workers) = (stage ≤ 15) × (1 ≤ workers) × (workers ≤ 64)
IsInRange (Trial frames seed workers) = (1 ≤ workers) × (workers ≤ 64)
IsInRange _ = Unit {0}
