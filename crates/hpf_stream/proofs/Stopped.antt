-- How a flow stops, from what was read and given so far and what stopped it.
use Rattle.std.proofs.Common.{◌≡◌, ℕ, ◌+◌, ◌<◌, ◌≤◌, ℤ, List, [], ◌∷◌, ◌++◌, length, Bool, true, false, Option, Result, Ok, Err, IfErr, OnErr, refl, sym, ap, ◌∙◌, subst, append-nil, append_assoc, arith}
use Rattle.std.proofs.Math.Nat.{mul-pos}
use Rattle.std.specs.List.{AllByRecursion}
use Rattle.hpf_io.specs.Bytes.{Takes, TakesFewer, Adds, AddsPrefix, IsPrefix, IsFlushed, IsOver, SameFlushed, AddsNothing}
use Rattle.hpf_io.specs.Counts.{Rose, Rose-after, Counted}
use Rattle.hpf_io.specs.Moves.{Takes-more, Adds-same, Adds-more, Adds-stays, AddsPrefix-whole}
use Rattle.hpf_io.specs.Writes.{Writes, Writes-then}
use Rattle.hpf_io.specs.declared.failed.Failed.{Failed}
use Rattle.hpf_frame.specs.declared.error.Progress.{Progress}
use Rattle.hpf_frame.specs.declared.error.InputError.{InputError}
use Rattle.hpf_frame.specs.declared.error.InputError.TheVariants.{Refused, ReadFault}
use Rattle.hpf_frame.specs.Faults.{InHeader, Behind, IsFault, RecordFault}
use Rattle.hpf_frame.specs.Readings.{fault_behind}
use Rattle.hpf_frame.specs.FrameFile.{version_one, AreExtents, elements, header, header_length, record_of, record_length, end_of, front_of, file_of}
use Rattle.hpf_frame.specs.Answers.{OnRefused, OnReadFault, CountsFault, TakesWrong}
use Rattle.hpf_stream.specs.declared.stop.Stop.{Stop}
use Rattle.hpf_stream.specs.declared.stop.Stop.TheVariants.{Input, Output}
use Rattle.hpf_io.specs.States.{SourceState, SinkState, IsSure}
use Rattle.hpf_stream.specs.Outside.{Rises, Stays, Gives, Flushes, Fails}
use Rattle.hpf_stream.specs.Flow.{Flow, begun, whole}
use Rattle.hpf_stream.specs.Passes.{Passes, Next, Over, Wrong, Unread, Unwritten, Reads, one_further}
use Rattle.hpf_stream.specs.Ends.{ReadsFile, ReadsFront, Stops, Halts, Lags, through}
use Rattle.hpf_stream.specs.Ends as stops
use Rattle.hpf_stream.proofs.SoFar.{SoFar, frames_so_far, SoFar-read, begun_more}

-- no frame was read: it is wrong, or the source failed
pub pass_stops : {T : Type 0} {flow : Flow} {size : ℕ} {at_old at_new : Progress} {values : List ℤ} {frames_old frames_new : SourceState} {out : SinkState} (result : _) (e : InputError)
    → result ≡ Err (Input e)
    → OnRefused {T = Bool} (Err e) (λ code offset. TakesWrong frames_old frames_new (record_length version_one size)
    (λ held. RecordFault version_one size at_old.frames at_old.offset held code offset))
    → OnReadFault {T = Bool} (Err e) (TakesFewer frames_old frames_new (record_length version_one size))
    → CountsFault {T = T} frames_old.faults frames_new.faults (Err e)
    → Passes flow size at_old at_new values frames_old frames_new out out result
pass_stops result (Refused code offset) is wrong fewer counted = Wrong code offset is wrong counted.same refl
pass_stops result ReadFault is wrong fewer counted = Unread is fewer (record { rose = counted.failed; later = counted.later }) refl

-- a sink that was given this much and no more
pub gives : (old new : SinkState) (text : List ℕ) → Writes old new (Ok tt) text → Gives old new text
gives old new text w = record { added = w.added; unflushed = w.not_flushed; counted = w.counted.same }

-- a sink that failed within this much
pub fails : (old new : SinkState) (text : List ℕ) (e : Failed) → Writes old new (Err e) text → Fails old new text
fails old new text e w = record {
  prefix = w.prefix;
  failed = record { rose = w.counted.failed; later = w.counted.later };
  unsure = w.unsure;
  unflushed = w.not_flushed;
}

-- nothing was given
none_given : (old new : SinkState) → new ≡ old → Gives old new []
none_given old new same =
    subst (λ (z : _). Gives old z []) (sym same) (record { added = Adds-same old; unflushed = record { told = λ all e. refl }; counted = refl })

-- the header was wrong, or the source failed within it
pub header_stops : {T : Type 0} (flow : Flow) (frames_old frames_new : SourceState) (out : SinkState) (e : InputError)
    → OnRefused {T = Bool} (Err e) (λ code offset. TakesWrong frames_old frames_new (header_length (length flow.enters) + 1)
    (λ held. IsFault flow.enters held InHeader code offset))
    → OnReadFault {T = Bool} (Err e) (TakesFewer frames_old frames_new (header_length (length flow.enters)))
    → CountsFault {T = T} frames_old.faults frames_new.faults (Err e)
    → Halts flow frames_old frames_new out out (Err (Input e))
header_stops flow frames_old frames_new out (Refused code offset) wrong fewer counted = record {
  stops = stops.Refused code offset refl InHeader wrong.front (record { read = (wrong.few, wrong.taken); wrong = wrong.wrong }) counted.same (none_given out out refl);
  still = λ e. absurd cc;
}
header_stops flow frames_old frames_new out ReadFault wrong fewer counted = record {
  stops = stops.Unread refl InHeader fewer.0 (fewer.1, fewer.2) (record { rose = counted.failed; later = counted.later }) (none_given out out refl);
  still = λ e. absurd cc;
}

-- out failed behind these frames, of which what is given was given whole
lags : (flow : Flow) (done ahead : List (List ℤ)) (before after : SinkState) (front : List ℕ)
    → IsPrefix (begun flow version_one done ++ front) (begun flow version_one (done ++ ahead)) → Adds before after (begun flow version_one done ++ front)
    → Fails before after (begun flow version_one (done ++ ahead)) → Lags flow version_one done ahead before after
lags flow [] ahead before after front within added fails =
    record { more = begun flow version_one [] ++ front; within = within; added = added; fails = fails }
lags flow (frame ∷ frames) ahead before after front within added fails =
    record { more = front; within = within; added = added; fails = fails }

-- the front of what is given was not written whole
pub front_stops : (flow : Flow) (frames_old frames_new : SourceState) (out_old out_new : SinkState) (e : Failed)
    → Takes frames_old frames_new (header version_one flow.enters) → Stays frames_old.faults frames_new.faults
    → Writes out_old out_new (Err e) (flow.front version_one)
    → Halts flow frames_old frames_new out_old out_new (Err Output)
front_stops flow frames_old frames_new out_old out_new e read counted writes =
    let none : header version_one flow.enters ≡ (header version_one flow.enters ++ []) ++ [] = sym (append-nil (header version_one flow.enters ++ []) ∙ append-nil (header version_one flow.enters)) in
    let front = writes.prefix in
    record {
      stops =
          stops.Unwritten refl version_one [] [] [] (record {
            shape_is = refl;
            frames_are = record { few = omega arith; each = tt };
            taken = subst (Takes frames_old frames_new) none read;
          }) (record {
            more = front.0;
            within = (front.1.0, append-nil (flow.front version_one) ∙ front.1.1);
            added = front.2;
            fails = subst (Fails out_old out_new) (sym (append-nil (flow.front version_one))) (fails out_old out_new (flow.front version_one) e writes);
          });
      still = λ e. counted;
    }

-- these frames were read, and more behind them
front_read : {flow : Flow} {Taken : List (List ℤ) → Type 0} {frames_old frames_now : SourceState} {out_old out_now : SinkState} {at : Progress} (frames_new : SourceState) (more : List ℕ)
    → (so : SoFar flow Taken frames_old frames_now out_old out_now at) → Takes frames_now frames_new more
    → ReadsFront version_one flow.enters so.all more frames_old frames_new
front_read frames_new more so taken = record { shape_is = refl; frames_are = frames_so_far so; taken = Takes-more so.read taken }

-- what was given stays as it was
given_still : {flow : Flow} {Taken : List (List ℤ) → Type 0} {frames_old frames_now : SourceState} {out_old out_now : SinkState} {at : Progress} (out_new : SinkState)
    → (so : SoFar flow Taken frames_old frames_now out_old out_now at) → out_new ≡ out_now → Gives out_old out_new (begun flow version_one so.all)
given_still {flow} {out_old = out_old} {out_now} out_new so same =
    subst (λ (z : _). Gives out_old z (begun flow version_one so.all)) (sym same) (gives out_old out_now (begun flow version_one so.all) so.writes)

record_within : (size len n : ℕ) → size ≡ len → n < record_length version_one size → n < record_length version_one len
record_within size len n same few = omega (arith, same, few)

later_rises : (a b c : ℕ) → Stays a b → Rises b c → Rises a c
later_rises a b c same rises = record { rose = Rose-after same rises.rose; later = omega (arith, same, rises.later) }

one_stop : (a b : Result Bool Stop) (stop other : Stop) → a ≡ Err stop → b ≡ Err other → a ≡ b → stop ≡ other
one_stop a b stop other e f is = cc

-- out failed within what is given for the next frame
lags_by : {flow : Flow} {Taken : List (List ℤ) → Type 0} {frames_old frames_now : SourceState} {out_old out_now : SinkState} {at : Progress} (out_new : SinkState) (values : List ℤ) (e : Failed)
    → (so : SoFar flow Taken frames_old frames_now out_old out_now at) → Writes out_now out_new (Err e) (flow.frame version_one at.frames values)
    → Lags flow version_one so.all (values ∷ []) out_old out_new
lags_by {flow} {out_old = out_old} {at = at} out_new values e so writes =
    let front = writes.prefix in
    let given = begun_more flow at.frames so.all values so.count in
    lags flow so.all (values ∷ []) out_old out_new front.0
    (front.1.0, sym given ∙ (ap (λ (bs : List ℕ). begun flow version_one so.all ++ bs) front.1.1 ∙ sym (append_assoc (begun flow version_one so.all) front.0 front.1.0)))
    (Adds-more so.writes.added front.2)
    (subst (Fails out_old out_new) given (fails out_old out_new (begun flow version_one so.all ++ flow.frame version_one at.frames values) e (Writes-then so.writes writes)))

-- whatever stopped the next frame
pub frame_stops : {flow : Flow} {Taken : List (List ℤ) → Type 0} {frames_old frames_now : SourceState} {out_old out_now : SinkState} {at : Progress} (frames_new : SourceState) (out_new : SinkState) (at' : Progress) (values : List ℤ) (size : ℕ) (stop : Stop)
    → size ≡ elements flow.enters
    → SoFar flow Taken frames_old frames_now out_old out_now at
    → Passes flow size at at' values frames_now frames_new out_now out_new (Err stop)
    → Halts flow frames_old frames_new out_old out_new (Err stop)
frame_stops frames_new out_new at' values size stop same so (Next is reads next writes) = absurd cc
frame_stops frames_new out_new at' values size stop same so (Over is read over counted count idle) = absurd cc
frame_stops {flow} {out_old = out_old} {at = at} frames_new out_new at' values size stop same so (Wrong code offset is wrong counted idle) =
    let kind = one_stop _ _ stop (Input (Refused code offset)) refl refl is in
    record {
      stops =
          stops.Refused code offset (ap Err kind) (Behind version_one so.all) wrong.front (record {
            read = (record_within size (elements flow.enters) (length wrong.front) same wrong.few, front_read frames_new wrong.front so wrong.taken);
            wrong = λ rest told.
                fault_behind version_one flow.enters so.all (wrong.front ++ rest) at.offset refl (frames_so_far so) so.begins
                (subst (λ (n : ℕ). RecordFault version_one n (length so.all) at.offset (wrong.front ++ rest) code offset) same
                (subst (λ (n : ℕ). RecordFault version_one size n at.offset (wrong.front ++ rest) code offset) so.count (wrong.wrong rest told)));
          }) (counted ∙ so.counted) (given_still out_new so idle);
      still = λ e. counted ∙ so.counted;
    }
frame_stops {flow} {out_old = out_old} frames_new out_new at' values size stop same so (Unread is fewer rises idle) =
    let kind = one_stop _ _ stop (Input ReadFault) refl refl is in
    record {
      stops =
          stops.Unread (ap Err kind) (Behind version_one so.all) fewer.0
          (record_within size (elements flow.enters) (length fewer.0) same fewer.1, front_read frames_new fewer.0 so fewer.2)
          (later_rises _ _ _ so.counted rises) (given_still out_new so idle);
      still = λ e. absurd cc;
    }
frame_stops {flow} {Taken} {frames_old} {frames_now} {out_old} {out_now} {at} frames_new out_new at' values size stop same so (Unwritten is reads e writes) =
    let kind = one_stop _ _ stop Output refl refl is in
    record {
      stops = stops.Unwritten (ap Err kind) version_one so.all (values ∷ []) [] (SoFar-read frames_new values size same so reads) (lags_by out_new values e so writes);
      still = λ e. reads.counted ∙ so.counted;
    }

-- what is said of a stop that a call hands on
pub stopped_by : {T : Type 0} (P : Stop → Type 0) (r : Result T Stop) (stop : Stop) → (x : Stop) × (r ≡ Err x) × (x ≡ stop) → P stop → IfErr r P
stopped_by P r stop is p = subst (λ (z : _). IfErr z P) (sym (is.1 ∙ ap Err is.2)) p

-- a frame that was read and handed on
pub record Handed (flow : Flow) (size : ℕ) (at_old at_new : Progress) (values : List ℤ) (frames_old frames_new : SourceState) (out_old out_new : SinkState) : Type 0 where
  pub reads : Reads size at_old.frames values frames_old frames_new
  pub next : at_new ≡ one_further size at_old
  pub writes : Writes out_old out_new (Ok tt) (flow.frame version_one at_old.frames values)

pub handed : {flow : Flow} {size : ℕ} {at at' : Progress} {values : List ℤ} {frames_old frames_new : SourceState} {out_old out_new : SinkState} {result : Result Bool Stop} (more : Bool)
    → Passes flow size at at' values frames_old frames_new out_old out_new result → result ≡ Ok more → more ≡ true → Handed flow size at at' values frames_old frames_new out_old out_new
handed more (Next is reads next writes) e holds = record { reads = reads; next = next; writes = writes }
handed more (Over is read over counted count idle) e holds = absurd cc
handed more (Wrong code offset is wrong counted idle) e holds = absurd cc
handed more (Unread is fewer rises idle) e holds = absurd cc
handed more (Unwritten is reads failed writes) e holds = absurd cc

-- the end was read
pub record Ended (at_old at_new : Progress) (frames_old frames_new : SourceState) (out_old out_new : SinkState) : Type 0 where
  pub read : Takes frames_old frames_new (end_of at_old.frames)
  pub over : IsOver frames_new
  pub counted : Stays frames_old.faults frames_new.faults
  pub count : at_new.frames ≡ at_old.frames
  pub idle : out_new ≡ out_old

pub ended : {flow : Flow} {size : ℕ} {at at' : Progress} {values : List ℤ} {frames_old frames_new : SourceState} {out_old out_new : SinkState} {result : Result Bool Stop} (more : Bool)
    → Passes flow size at at' values frames_old frames_new out_old out_new result → result ≡ Ok more → more ≡ false → Ended at at' frames_old frames_new out_old out_new
ended more (Next is reads next writes) e holds = absurd cc
ended more (Over is read over counted count idle) e holds = record { read = read; over = over; counted = counted; count = count; idle = idle }
ended more (Wrong code offset is wrong counted idle) e holds = absurd cc
ended more (Unread is fewer rises idle) e holds = absurd cc
ended more (Unwritten is reads failed writes) e holds = absurd cc

-- the whole file was read
pub file_read : {flow : Flow} {Taken : List (List ℤ) → Type 0} {frames_old frames_now : SourceState} {out_old out_now : SinkState} {at at' : Progress} (frames_new : SourceState) (out_new : SinkState)
    → (so : SoFar flow Taken frames_old frames_now out_old out_now at) → Ended at at' frames_now frames_new out_now out_new → ReadsFile version_one flow.enters so.all frames_old frames_new
file_read {flow = flow} {frames_old = frames_old} frames_new out_new so end = record {
  shape_is = refl;
  frames_are = frames_so_far so;
  taken = subst (λ (n : ℕ). Takes frames_old frames_new (front_of version_one flow.enters so.all ++ end_of n)) so.count (Takes-more so.read end.read);
  over = end.over;
  counted = end.counted ∙ so.counted;
}

-- what is given for all frames, as far as it was written
pub writes_whole : {flow : Flow} {Taken : List (List ℤ) → Type 0} {frames_old frames_now frames_new : SourceState} {out_old out_now : SinkState} {at at' : Progress} (out_new out_then : SinkState) (result : _) (other : Flow) (count : ℕ)
    → (so : SoFar flow Taken frames_old frames_now out_old out_now at) → Ended at at' frames_now frames_new out_now out_new
    → other ≡ flow → count ≡ at'.frames
    → Writes out_new out_then result (other.close version_one count)
    → Writes out_old out_then result (whole flow version_one so.all)
writes_whole {flow} {out_old = out_old} {out_now} {at} {at'} out_new out_then result other count so end same is writes =
    let closed = subst (λ (f : Flow). Writes out_new out_then result (f.close version_one count)) same writes in
    let counted = subst (λ (n : ℕ). Writes out_new out_then result (flow.close version_one n)) (is ∙ (end.count ∙ so.count)) closed in
    Writes-then so.writes (subst (λ (z : _). Writes z out_then result (flow.close version_one (length so.all))) end.idle counted)

-- a text that was written and then flushed, or not
pub flushes : (old now new : SinkState) (text : List ℕ) → Writes old now (Ok tt) text
    → AddsNothing now new → IsFlushed new → new.faults ≡ now.faults → Flushes old new text
flushes old now new text w kept done counted = record { added = Adds-stays w.added kept; flushed = done; counted = counted ∙ w.counted.same }

pub flush_fails : (old now new : SinkState) (text : List ℕ) → Writes old now (Ok tt) text
    → AddsNothing now new → SameFlushed now new → Rose now.faults new.faults → now.faults ≤ new.faults → ¬ IsSure now 0 → Fails old new text
flush_fails old now new text w kept unflushed rose later unsure = record {
  prefix = AddsPrefix-whole (Adds-stays w.added kept);
  failed = later_rises _ _ _ w.counted.same (record { rose = rose; later = later });
  unsure = λ sure. let whole : length text ≡ length text + 0 = omega arith in unsure (w.spends 0 (subst (λ (n : ℕ). IsSure old n) whole sure));
  unflushed = record { told = λ all e. unflushed.told all e ∙ w.not_flushed.told all (kept.told all e) };
}

-- out failed when all of the input was read
pub halts_unclosed : {flow : Flow} {before after : SourceState} {out_was out_now : SinkState} (frames : List (List ℤ))
    → ReadsFile version_one flow.enters frames before after → Fails out_was out_now (whole flow version_one frames) → Halts flow before after out_was out_now (Err Output)
halts_unclosed frames read failed = record { stops = stops.Unclosed refl version_one frames read failed; still = λ e. read.counted }

-- an array has an element
some_each : (extents : List ℕ) → AllByRecursion (λ extent. 0 < extent) extents → 0 < elements extents
some_each [] each = omega arith
some_each (extent ∷ extents) each = mul-pos each.0 (some_each extents each.1)

pub some_elements : (extents : List ℕ) → AreExtents extents → 0 < elements extents
some_elements extents are = some_each extents are.positive
