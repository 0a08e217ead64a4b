-- A text that was given to a sink, and then flushed or not.
use Rattle.std.proofs.Common.{◌≡◌, ◌≢◌, ℕ, ◌+◌, ◌≤◌, List, length, Result, Ok, Err, IfErr, ◌∙◌, sym, subst, arith}
use Rattle.hpf_io.specs.Bytes.{IsFlushed, SameFlushed, AddsNothing}
use Rattle.hpf_io.specs.Counts.{Rose, Rose-after}
use Rattle.hpf_io.specs.Moves.{Adds-stays, AddsPrefix-whole}
use Rattle.hpf_io.specs.States.{SinkState, IsSure}
use Rattle.hpf_io.specs.Writes.{Writes}
use Rattle.hpf_io.specs.declared.failed.Failed.{Failed}
use Rattle.hpf_stream.specs.declared.stop.Stop.{Stop}
use Rattle.hpf_status.specs.declared.status.Status.{Status}
use Rattle.hpf_status.specs.declared.status.Status.TheVariants as status
use Rattle.hpf_stream.specs.Outside.{Flushes, Fails}
use Rattle.hpf_cmd.specs.Shows.{Shows, Shown, Unshown}

pub fails : (old new : SinkState) (text : List ℕ) (e : Failed) → Writes old new (Err e) text → Fails old new text
fails old new text e w = record {
  prefix = w.prefix;
  failed = record { rose = w.counted.failed; later = w.counted.later };
  unsure = w.unsure;
  unflushed = w.not_flushed;
}

pub flushes : (old now new : SinkState) (text : List ℕ) → Writes old now (Ok tt) text
    → AddsNothing now new → IsFlushed new → new.faults ≡ now.faults → Flushes old new text
flushes old now new text w kept done counted = record { added = Adds-stays w.added kept; flushed = done; counted = counted ∙ w.counted.same }

pub flush_fails : (old now new : SinkState) (text : List ℕ) → Writes old now (Ok tt) text
    → AddsNothing now new → SameFlushed now new → Rose now.faults new.faults → now.faults ≤ new.faults → ¬ IsSure now 0 → Fails old new text
flush_fails old now new text w kept unflushed rose later unsure = record {
  prefix = AddsPrefix-whole (Adds-stays w.added kept);
  failed = record { rose = Rose-after w.counted.same rose; later = omega (arith, w.counted.same, later) };
  unsure = λ sure. let whole : length text ≡ length text + 0 = omega arith in unsure (w.spends 0 (subst (λ (n : ℕ). IsSure old n) whole sure));
  unflushed = record { told = λ all e. unflushed.told all e ∙ w.not_flushed.told all (kept.told all e) };
}

-- what is said of a stop that a call hands on
pub stopped_by : (P : Stop → Type 0) (r : Result (Unit {0}) Stop) (stop : Stop) → r ≡ Err stop → P stop → IfErr r P
stopped_by P r stop is p = subst (λ (z : Result (Unit {0}) Stop). IfErr z P) (sym is) p

-- a text that is shown needs no memory
pub no_memory : (old new : SinkState) (text : List ℕ) (end : Status) → Shows old new text end → end ≢ status.OutOfMemory
no_memory old new text end (Shown is flushed) memory = cc
no_memory old new text end (Unshown is failed) memory = cc
