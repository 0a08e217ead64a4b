use Rattle.std.proofs.Common.{◌≡◌, ℕ, ◌+◌, List, Some, None, Result, Ok, Err, IfOk, arith, refl}
use Rattle.hpf_io.specs.Counts.{Rose}
use Rattle.hpf_io.specs.Calls.{one_more_fault}
use Rattle.hpf_io.specs.Files.{Files, HasFront}
use Rattle.hpf_io.proofs.file_loader.FileLoaderLoader.TheImpl.Goals as goal

-- a count that goes one up, or stands at the last value, rose
rose : (before now : ℕ) → now ≡ one_more_fault before → Rose before now
rose before now e = grind arith

-- of files that aren't told anything holds
untold : {E : Type 0} (r : Result (List ℕ) E) (name : List ℕ) (count : ℕ) → IfOk r (λ text. (all : Files) → None ≡ Some all → HasFront all name count text)
untold (Ok text) name count = λ all e. cc
untold (Err _) name count = tt

pub load-tells : goal.load-tells
load-tells g c = record {
  kept = λ all e. e;
  within = c.ensures.within;
  front = untold c.result c.args.name.now (c.args.limit + 1);
  failed = λ f. rose c.args.self.now.faults c.new.self.now.faults (c.ensures.fault f);
  name = c.ensures.name;
  cause = λ _. refl;
  counted = c.ensures.counted;
  same = c.ensures.same;
  later = c.ensures.later;
}
