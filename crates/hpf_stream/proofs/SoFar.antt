-- What was read and given before the next frame.
use Rattle.std.proofs.Common.{◌≡◌, ℕ, ◌+◌, ◌*◌, ◌^◌, ◌<◌, ◌≤◌, ℤ, List, [], ◌∷◌, ◌++◌, length, true, Ok, refl, sym, ap, ◌∙◌, subst, append_assoc, append-nil, arith, length-append, zero-add}
use Rattle.std.specs.List.{AllByRecursion}
use Rattle.hpf_io.specs.Bytes.{Takes}
use Rattle.hpf_io.specs.Moves.{Takes-more}
use Rattle.hpf_io.specs.Writes.{Writes, Writes-then}
use Rattle.hpf_frame.specs.declared.error.Progress.{Progress}
use Rattle.hpf_frame.specs.FrameFile.{version_one, IsFrame, AreFrames, elements, header, header_length, record_of, records, front_of, record_length}
use Rattle.hpf_frame.specs.Bytes.{length-header, length-record_of}
use Rattle.hpf_io.specs.States.{SourceState, SinkState}
use Rattle.hpf_stream.specs.Outside.{Stays}
use Rattle.hpf_stream.specs.Flow.{Flow, bodies, begun}
use Rattle.hpf_stream.specs.Passes.{Reads, one_further}
use Rattle.hpf_stream.specs.Ends.{ReadsFront}

pub record SoFar (flow : Flow) (Taken : List (List ℤ) → Type 0) (frames_old frames_now : SourceState) (out_old out_now : SinkState) (at : Progress) : Type 0 where
  pub all : List (List ℤ)
  pub count : at.frames ≡ length all
  pub below : at.frames < 2 ^ 32
  pub live : at.live ≡ true
  pub offset : at.offset ≤ 36 + at.frames * 2 ^ 27
  pub begins : at.offset ≡ length (front_of version_one flow.enters all)
  pub each : AllByRecursion (IsFrame version_one (elements flow.enters)) all
  pub read : Takes frames_old frames_now (front_of version_one flow.enters all)
  pub counted : Stays frames_old.faults frames_now.faults
  pub writes : Writes out_old out_now (Ok tt) (begun flow version_one all)
  pub taken : Taken all

each_more : (size : ℕ) (all : List (List ℤ)) (x : List ℤ) → AllByRecursion (IsFrame version_one size) all → IsFrame version_one size x → AllByRecursion (IsFrame version_one size) (all ++ x ∷ [])
each_more size [] x f h = (h, tt)
each_more size (y ∷ all) x f h = (f.0, each_more size all x f.1 h)

records_more : (frame : ℕ) (all : List (List ℤ)) (x : List ℤ) → records version_one frame (all ++ x ∷ []) ≡ records version_one frame all ++ record_of version_one (frame + length all) x
records_more frame [] x = append-nil (record_of version_one frame x) ∙ ap (λ (k : ℕ). record_of version_one k x) (omega arith)
records_more frame (y ∷ all) x =
    ap (λ (bs : List ℕ). record_of version_one frame y ++ bs) (records_more (frame + 1) all x) ∙ (sym (append_assoc (record_of version_one frame y) (records version_one (frame + 1) all) (record_of version_one (frame + 1 + length all) x)) ∙ ap (λ (k : ℕ). (record_of version_one frame y ++ records version_one (frame + 1) all) ++ record_of version_one k x) (omega arith))

bodies_more : (flow : Flow) (frame : ℕ) (all : List (List ℤ)) (x : List ℤ) → bodies flow version_one frame (all ++ x ∷ []) ≡ bodies flow version_one frame all ++ flow.frame version_one (frame + length all) x
bodies_more flow frame [] x = append-nil (flow.frame version_one frame x) ∙ ap (λ (k : ℕ). flow.frame version_one k x) (omega arith)
bodies_more flow frame (y ∷ all) x =
    ap (λ (bs : List ℕ). flow.frame version_one frame y ++ bs) (bodies_more flow (frame + 1) all x) ∙ (sym (append_assoc (flow.frame version_one frame y) (bodies flow version_one (frame + 1) all) (flow.frame version_one (frame + 1 + length all) x)) ∙ ap (λ (k : ℕ). (flow.frame version_one frame y ++ bodies flow version_one (frame + 1) all) ++ flow.frame version_one k x) (omega arith))

-- the front of a file of one frame more
pub front_more : (extents : List ℕ) (number : ℕ) (all : List (List ℤ)) (x : List ℤ) → number ≡ length all → front_of version_one extents all ++ record_of version_one number x ≡ front_of version_one extents (all ++ x ∷ [])
front_more extents number all x e =
    append_assoc (header version_one extents) (records version_one 0 all) (record_of version_one number x) ∙ ap (λ (bs : List ℕ). header version_one extents ++ bs) (ap (λ (k : ℕ). records version_one 0 all ++ record_of version_one k x) (e ∙ sym (zero-add (length all))) ∙ sym (records_more 0 all x))

-- what is given for one frame more
pub begun_more : (flow : Flow) (number : ℕ) (all : List (List ℤ)) (x : List ℤ) → number ≡ length all → begun flow version_one all ++ flow.frame version_one number x ≡ begun flow version_one (all ++ x ∷ [])
begun_more flow number all x e =
    append_assoc (flow.front version_one) (bodies flow version_one 0 all) (flow.frame version_one number x) ∙ ap (λ (bs : List ℕ). (flow.front version_one) ++ bs) (ap (λ (k : ℕ). bodies flow version_one 0 all ++ flow.frame version_one k x) (e ∙ sym (zero-add (length all))) ∙ sym (bodies_more flow 0 all x))

-- no frame yet
pub SoFar-none : (flow : Flow) (Taken : List (List ℤ) → Type 0) (frames_old frames_now : SourceState) (out_old out_now : SinkState) (at : Progress)
    → Taken [] → Takes frames_old frames_now (header version_one flow.enters) → Stays frames_old.faults frames_now.faults
    → Writes out_old out_now (Ok tt) (flow.front version_one)
    → length flow.enters ≤ 7 → at ≡ record { frames = 0; offset = 8 + 4 * length flow.enters; live = true }
    → SoFar flow Taken frames_old frames_now out_old out_now at
SoFar-none flow Taken frames_old frames_now out_old out_now at none read counted writes few e = record {
  all = [];
  count = ap (λ (p : Progress). p.frames) e;
  below = omega (arith, ap (λ (p : Progress). p.frames) e);
  live = ap (λ (p : Progress). p.live) e;
  offset = omega (arith, few, ap (λ (p : Progress). p.frames) e, ap (λ (p : Progress). p.offset) e);
  begins =
      omega (
        arith,
        ap (λ (p : Progress). p.offset) e,
        length-header flow.enters,
        length-append (header version_one flow.enters) [],
      );
  each = tt;
  read = subst (Takes frames_old frames_now) (sym (append-nil (header version_one flow.enters))) read;
  counted = counted;
  writes = subst (Writes out_old out_now (Ok tt)) (sym (append-nil (flow.front version_one))) writes;
  taken = none;
}

-- one frame more
pub SoFar-more : {flow : Flow} {Before : List (List ℤ) → Type 0} {frames_old frames_now : SourceState} {out_old out_now : SinkState} {at : Progress} (After : List (List ℤ) → Type 0) (frames_new : SourceState) (out_new : SinkState) (at' : Progress) (values : List ℤ) (size : ℕ)
    → size ≡ elements flow.enters → elements flow.enters ≤ 2 ^ 24
    → (so : SoFar flow Before frames_old frames_now out_old out_now at)
    → Reads size at.frames values frames_now frames_new → Writes out_now out_new (Ok tt) (flow.frame version_one at.frames values)
    → at' ≡ one_further size at → (Before so.all → After (so.all ++ values ∷ []))
    → SoFar flow After frames_old frames_new out_old out_new at'
SoFar-more {flow} {frames_old = frames_old} {out_old = out_old} {at = at} After frames_new out_new at' values size same few so reads writes e taken = record {
  all = so.all ++ values ∷ [];
  count = ap (λ (p : Progress). p.frames) e ∙ omega (arith, so.count, length-append so.all (values ∷ []));
  below = omega (arith, reads.few, ap (λ (p : Progress). p.frames) e);
  live = ap (λ (p : Progress). p.live) e;
  offset = omega (arith, few, same, so.offset, ap (λ (p : Progress). p.frames) e, ap (λ (p : Progress). p.offset) e);
  begins =
      omega (
        arith,
        so.begins,
        ap (λ (p : Progress). p.offset) e,
        reads.frame_is.size_is,
        length-record_of at.frames values,
        length-append (front_of version_one flow.enters so.all) (record_of version_one at.frames values),
        ap length (front_more flow.enters at.frames so.all values so.count),
      );
  each = each_more (elements flow.enters) so.all values so.each (subst (λ (n : ℕ). IsFrame version_one n values) same reads.frame_is);
  read = subst (Takes frames_old frames_new) (front_more flow.enters at.frames so.all values so.count) (Takes-more so.read reads.taken);
  counted = reads.counted ∙ so.counted;
  writes = subst (Writes out_old out_new (Ok tt)) (begun_more flow at.frames so.all values so.count) (Writes-then so.writes writes);
  taken = taken so.taken;
}

-- the frames that were read are frames of a file
pub frames_so_far : {flow : Flow} {Taken : List (List ℤ) → Type 0} {frames_old frames_now : SourceState} {out_old out_now : SinkState} {at : Progress}
    → (so : SoFar flow Taken frames_old frames_now out_old out_now at) → AreFrames version_one (elements flow.enters) so.all
frames_so_far so = record { few = omega (arith, so.count, so.below); each = so.each }

-- and so they are with one frame more, whatever is given for it
pub SoFar-read : {flow : Flow} {Taken : List (List ℤ) → Type 0} {frames_old frames_now : SourceState} {out_old out_now : SinkState} {at : Progress} (frames_new : SourceState) (values : List ℤ) (size : ℕ)
    → size ≡ elements flow.enters → (so : SoFar flow Taken frames_old frames_now out_old out_now at) → Reads size at.frames values frames_now frames_new
    → ReadsFront version_one flow.enters (so.all ++ values ∷ []) [] frames_old frames_new
SoFar-read {flow = flow} {frames_old = frames_old} {at = at} frames_new values size same so reads = record {
  shape_is = refl;
  frames_are = record {
    few = omega (arith, so.count, reads.few, length-append so.all (values ∷ []));
    each = each_more (elements flow.enters) so.all values so.each (subst (λ (n : ℕ). IsFrame version_one n values) same reads.frame_is);
  };
  taken = subst (Takes frames_old frames_new) (front_more flow.enters at.frames so.all values so.count ∙ sym (append-nil (front_of version_one flow.enters (so.all ++ values ∷ [])))) (Takes-more so.read reads.taken);
}
