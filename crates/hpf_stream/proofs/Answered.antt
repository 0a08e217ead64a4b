-- What a flow gives, seen from the answer to what the source held.
use Rattle.std.proofs.Common.{◌≡◌, ℕ, ◌+◌, ℤ, Ok, Err, inl, inr, List, [], ◌∷◌, ◌++◌, length, Some, refl, sym, ap, ◌∙◌, subst, append_assoc, append-nil, arith, length-append}
use Rattle.hpf_io.specs.Bytes.{Takes, Adds, AddsPrefix, IsPrefix, IsOver}
use Rattle.hpf_io.specs.Moves.{AddsPrefix-front, AddsPrefix-whole}
use Rattle.hpf_io.specs.Writes.{Fits-fewer}
use Rattle.hpf_frame.specs.FrameFile.{Shape, IsShape, IsFile, AreFrames, elements, front_of, file_of}
use Rattle.hpf_frame.specs.Faults.{Place, InHeader, Behind, IsFault, sound_front}
use Rattle.hpf_frame.specs.Readings.{BeginsWith, LiesBehind, whole_begins, fault_begins, no_fault}
use Rattle.hpf_stream.specs.declared.stop.Stop.{Stop}
use Rattle.hpf_stream.specs.declared.stop.Stop.TheVariants.{Output}
use Rattle.hpf_stream.specs.GivesAnswer.{GivesAnswer}
use Rattle.hpf_io.specs.States.{SourceState, SinkState, IsSure}
use Rattle.hpf_stream.specs.Outside.{Outside, Moment, Rises, Stays, FramesStay, NoFault, IsSafeFor}
use Rattle.hpf_stream.specs.Flow.{Flow, bodies, begun, whole, given_for, Answers, Whole, Broken}
use Rattle.hpf_stream.specs.Ends.{End, Halts, ReadsFile, ReadsFront, ReadsTo, ReadsPast, ReadsWrong, Stops, Unwritten, Unclosed, Refused, Unread, Ends, Finished, Unnoted, Stopped}
use Rattle.hpf_stream.specs.Streams.{Streams, Counts, HeldFile, HeldNoFile, IsRefused}

bodies-append : (flow : Flow) (shape : Shape) (number : ℕ) (xs ys : List (List ℤ)) → bodies flow shape number (xs ++ ys) ≡ bodies flow shape number xs ++ bodies flow shape (number + length xs) ys
bodies-append flow shape number [] ys = ap (λ (k : ℕ). bodies flow shape k ys) (omega arith)
bodies-append flow shape number (x ∷ xs) ys =
    ap (λ (bs : List ℕ). flow.frame shape number x ++ bs) (bodies-append flow shape (number + 1) xs ys ∙ ap (λ (k : ℕ). bodies flow shape (number + 1) xs ++ bodies flow shape k ys) (omega arith))
    ∙ sym (append_assoc (flow.frame shape number x) (bodies flow shape (number + 1) xs) (bodies flow shape (number + length (x ∷ xs)) ys))

-- what is given for some frames begins what is given for them and more
begun_begins : (flow : Flow) (shape : Shape) (all read more : List (List ℤ)) → all ≡ read ++ more → IsPrefix (begun flow shape read) (begun flow shape all)
begun_begins flow shape all read more e =
    (_, ap (begun flow shape) e ∙ (ap (λ (bs : List ℕ). flow.front shape ++ bs) (bodies-append flow shape 0 read more) ∙ sym (append_assoc (flow.front shape) (bodies flow shape 0 read) (bodies flow shape (0 + length read) more))))

begins_further : (xs ys zs : List ℕ) → IsPrefix xs ys → IsPrefix xs (ys ++ zs)
begins_further xs ys zs p = (p.0 ++ zs, ap (λ (bs : List ℕ). bs ++ zs) p.1 ∙ append_assoc xs p.0 zs)

begins_itself : (xs ys : List ℕ) → xs ≡ ys → IsPrefix xs ys
begins_itself xs ys e = ([], sym e ∙ sym (append-nil xs))

-- ---- what the source held, where it tells

held : {a b : SourceState} {bytes : List ℕ} (input rest : List ℕ) → Takes a b bytes → a.left ≡ Some input → b.left ≡ Some rest → input ≡ bytes ++ rest
held input rest taken before after = let e = taken.told rest after in cc

-- there is one shape
one_shape : (s t : Shape) → IsShape s → IsShape t → s ≡ t
one_shape s t f g = f ∙ sym g

only_longer : (xs ys more : List (List ℤ)) → xs ≡ ys ++ more → length more ≡ 0 → xs ≡ ys
only_longer xs ys [] e none = e ∙ append-nil ys
only_longer xs ys (x ∷ more) e none = absurd (omega arith)

same_length : (xs ys more others : List (List ℤ)) → xs ≡ ys ++ more → ys ≡ xs ++ others → xs ≡ ys
same_length xs ys more others e f = only_longer xs ys more e (omega (arith, ap length e, ap length f, length-append ys more, length-append xs others))

-- a file has one shape and its frames alone
pub same_frames : (extents : List ℕ) (s t : Shape) (xs ys : List (List ℤ)) (bytes : List ℕ) → IsFile s extents xs bytes → IsFile t extents ys bytes → (s ≡ t) × (xs ≡ ys)
same_frames extents s t xs ys bytes f g =
    let same = one_shape s t f.shape_is g.shape_is in
    let h = subst (λ (z : Shape). IsFile z extents ys bytes) (sym same) g in
    let onward = whole_begins s extents xs ys _ bytes f h.frames_are h.bytes_are in
    let back = whole_begins s extents ys xs _ bytes h f.frames_are f.bytes_are in
    (same, same_length xs ys onward.0 back.0 onward.1 back.1)

-- bytes have one fault alone
one_place : (extents bytes : List ℕ) (a b : Place) (code offset code' offset' : ℕ) → IsFault extents bytes a code offset → IsFault extents bytes b code' offset' → a ≡ b
one_place extents bytes InHeader InHeader code offset code' offset' f g = refl
one_place extents bytes InHeader (Behind t ys) code offset code' offset' f g = absurd (fault_begins InHeader t extents ys g.rest bytes code offset f g.shape_is g.frames_are g.bytes_are)
one_place extents bytes (Behind s xs) InHeader code offset code' offset' f g = absurd (fault_begins InHeader s extents xs f.rest bytes code' offset' g f.shape_is f.frames_are f.bytes_are)
one_place extents bytes (Behind s xs) (Behind t ys) code offset code' offset' f g =
    let onward = fault_begins (Behind s xs) t extents ys g.rest bytes code offset f g.shape_is g.frames_are g.bytes_are in
    let back = fault_begins (Behind t ys) s extents xs f.rest bytes code' offset' g f.shape_is f.frames_are f.bytes_are in
    ap (λ (z : Shape). Behind z xs) (one_shape s t f.shape_is g.shape_is) ∙ ap (Behind t) (same_length xs ys onward.0 back.0 onward.1 back.1)

-- ---- what was read is of what the source held

pub file_held : {old new : SourceState} (shape : Shape) (enters : List ℕ) (frames : List (List ℤ)) (input rest : List ℕ) → ReadsFile shape enters frames old new → old.left ≡ Some input → new.left ≡ Some rest → IsFile shape enters frames input
file_held shape enters frames input rest read before after = record {
  shape_is = read.shape_is;
  frames_are = read.frames_are;
  bytes_are = held input rest read.taken before after ∙ (ap (λ (bs : List ℕ). file_of shape enters frames ++ bs) (read.over rest after) ∙ append-nil (file_of shape enters frames));
}

front_held : {old new : SourceState} (shape : Shape) (enters : List ℕ) (frames : List (List ℤ)) (more input rest : List ℕ) → ReadsFront shape enters frames more old new → old.left ≡ Some input → new.left ≡ Some rest → input ≡ front_of shape enters frames ++ (more ++ rest)
front_held shape enters frames more input rest read before after = held input rest read.taken before after ∙ append_assoc (front_of shape enters frames) more rest

past_held : (old new : SourceState) (enters : List ℕ) (place : Place) (more input rest : List ℕ) → ReadsPast enters place more old new → old.left ≡ Some input → new.left ≡ Some rest → input ≡ sound_front enters place ++ (more ++ rest)
past_held old new enters InHeader more input rest read before after = held input rest read.1 before after
past_held old new enters (Behind shape frames) more input rest read before after = front_held shape enters frames more input rest read.1 before after

pub wrong_held : (old new : SourceState) (enters : List ℕ) (place : Place) (code offset : ℕ) (more input rest : List ℕ) → ReadsWrong enters place code offset more old new → old.left ≡ Some input → new.left ≡ Some rest → IsFault enters input place code offset
wrong_held old new enters place code offset more input rest read before after =
    subst (λ (bytes : List ℕ). IsFault enters bytes place code offset) (sym (past_held old new enters place more input rest read.read before after)) (read.wrong rest after)

-- ---- the answer

-- what is given for frames that the input begins with begins the answer
front_answers : (flow : Flow) (shape : Shape) (frames : List (List ℤ)) (rest input text : List ℕ) → IsShape shape → AreFrames shape (elements flow.enters) frames → input ≡ front_of shape flow.enters frames ++ rest → Answers flow input text → IsPrefix (begun flow shape frames) text
front_answers flow shape frames rest input text shape_is are e (Whole other all file is) =
    let same = one_shape other shape file.shape_is shape_is in
    let begins = whole_begins shape flow.enters all frames rest input (subst (λ (z : Shape). IsFile z flow.enters all input) same file) are e in
    subst (IsPrefix (begun flow shape frames)) (sym (is ∙ ap (λ (z : Shape). whole flow z all) same)) (begins_further (begun flow shape frames) (begun flow shape all) _ (begun_begins flow shape all frames begins.0 begins.1))
front_answers flow shape frames rest input text shape_is are e (Broken InHeader code offset fault is) =
    absurd (fault_begins InHeader shape flow.enters frames rest input code offset fault shape_is are e)
front_answers flow shape frames rest input text shape_is are e (Broken (Behind other all) code offset fault is) =
    let same = one_shape other shape fault.shape_is shape_is in
    let begins = fault_begins (Behind other all) shape flow.enters frames rest input code offset fault shape_is are e in
    subst (IsPrefix (begun flow shape frames)) (sym (is ∙ ap (λ (z : Shape). begun flow z all) same)) (begun_begins flow shape all frames begins.0 begins.1)

file_answers : (flow : Flow) (shape : Shape) (frames : List (List ℤ)) (input text : List ℕ) → IsFile shape flow.enters frames input → Answers flow input text → whole flow shape frames ≡ text
file_answers flow shape frames input text file (Whole other all same is) =
    let one = same_frames flow.enters shape other frames all input file same in
    ap (λ (z : Shape). whole flow z frames) one.0 ∙ (ap (whole flow other) one.1 ∙ sym is)
file_answers flow shape frames input text file (Broken place code offset fault is) = absurd (no_fault place shape flow.enters frames input code offset file fault)

broken_answers : (flow : Flow) (place : Place) (code offset : ℕ) (input text : List ℕ) → IsFault flow.enters input place code offset → Answers flow input text → given_for flow place ≡ text
broken_answers flow place code offset input text fault (Whole shape all file is) = absurd (no_fault place shape flow.enters all input code offset file fault)
broken_answers flow place code offset input text fault (Broken other code' offset' fault' is) =
    ap (given_for flow) (one_place flow.enters input place other code offset code' offset' fault fault') ∙ sym is

-- what is given for an input as far as it was read begins the answer
reach_answers : (old new : SourceState) (flow : Flow) (place : Place) (more input rest text : List ℕ) → ReadsTo flow.enters place more old new → old.left ≡ Some input → new.left ≡ Some rest → Answers flow input text → IsPrefix (given_for flow place) text
reach_answers old new flow InHeader more input rest text read before after answers = (text, refl)
reach_answers old new flow (Behind shape frames) more input rest text read before after answers =
    front_answers flow shape frames _ input text read.1.shape_is read.1.frames_are (front_held shape flow.enters frames more input rest read.1 before after) answers

longer_prefix : {a b : SinkState} (xs ys : List ℕ) → AddsPrefix a b xs → IsPrefix xs ys → AddsPrefix a b ys
longer_prefix {a} {b} xs ys p begins = subst (AddsPrefix a b) (sym begins.1) (AddsPrefix-front begins.0 p)

-- a sink that is sure of a text is sure of its front
pub sure_front : (sink : SinkState) (front text : List ℕ) → IsPrefix front text → IsSure sink (length text) → IsSure sink (length front)
sure_front sink front text begins sure =
    Fits-fewer sink.room (length front) (length begins.0) (subst (λ (n : ℕ). IsSure sink n) (ap length begins.1 ∙ length-append front begins.0) sure)

-- ---- the ends of a flow

as_end : (before after : SinkState) (text : List ℕ) (end other : End) → end ≡ other → GivesAnswer before after text other → GivesAnswer before after text end
as_end before after text end other is given = subst (λ (z : End). GivesAnswer before after text z) (sym is) given

stop_answers : {flow : Flow} {frames_old frames_new : SourceState} {out_old out_new : SinkState} {end : End} → Stops flow frames_old frames_new out_old out_new end
    → (input rest text : List ℕ) → frames_old.left ≡ Some input → frames_new.left ≡ Some rest → Answers flow input text → GivesAnswer out_old out_new text end
stop_answers {flow = flow} {end = end} (Unwritten is shape done ahead more read lags) input rest text before after answers =
    as_end _ _ text end _ is (longer_prefix (begun flow shape (done ++ ahead)) text lags.fails.prefix (front_answers flow shape (done ++ ahead) _ input text read.shape_is read.frames_are (front_held shape flow.enters (done ++ ahead) more input rest read before after) answers))
stop_answers {flow = flow} {end = end} (Unclosed is shape frames read fails) input rest text before after answers =
    as_end _ _ text end _ is (longer_prefix (whole flow shape frames) text fails.prefix (begins_itself _ _ (file_answers flow shape frames input text (file_held shape flow.enters frames input rest read before after) answers)))
stop_answers {flow = flow} {out_old = out_old} {out_new} {end} (Refused code offset is place more read counted gives) input rest text before after answers =
    as_end _ _ text end _ is (subst (Adds out_old out_new) (broken_answers flow place code offset input text (wrong_held _ _ flow.enters place code offset more input rest read before after) answers) gives.added)
stop_answers {flow = flow} {end = end} (Unread is place more read rises gives) input rest text before after answers =
    as_end _ _ text end _ is (longer_prefix (given_for flow place) text (AddsPrefix-whole gives.added) (reach_answers _ _ flow place more input rest text read before after answers))

answered : {S K N : Type 0} {o : Outside S K N} {flow : Flow} {was now : Moment S K N} {end : End} → Ends o flow was now end
    → (input rest text : List ℕ) → (o.frames was.frames).left ≡ Some input → (o.frames now.frames).left ≡ Some rest → Answers flow input text → GivesAnswer (o.out was.out) (o.out now.out) text end
answered {o = o} {flow} {was} {now} {end} (Finished is shape frames read flushes gives) input rest text before after answers =
    as_end _ _ text end _ is (subst (Adds (o.out was.out) (o.out now.out)) (file_answers flow shape frames input text (file_held shape flow.enters frames input rest read before after) answers) flushes.added)
answered {flow = flow} {end = end} (Unnoted is shape frames read flushes fails) input rest text before after answers =
    as_end _ _ text end _ is (longer_prefix (whole flow shape frames) text (AddsPrefix-whole flushes.added) (begins_itself _ _ (file_answers flow shape frames input text (file_held shape flow.enters frames input rest read before after) answers)))
answered (Stopped stops idle) input rest text before after answers = stop_answers stops input rest text before after answers

-- out failed within the answer, so it was not sure to take it
stop_unsure : {flow : Flow} {frames_old frames_new : SourceState} {out_old out_new : SinkState} {end : End} → Stops flow frames_old frames_new out_old out_new end
    → end ≡ Err Output → (input rest text : List ℕ) → frames_old.left ≡ Some input → frames_new.left ≡ Some rest → Answers flow input text → ¬ IsSure out_old (length text)
stop_unsure {flow = flow} {out_old = out_old} (Unwritten is shape done ahead more read lags) fault input rest text before after answers =
    λ sure. lags.fails.unsure (sure_front out_old _ text (front_answers flow shape (done ++ ahead) _ input text read.shape_is read.frames_are (front_held shape flow.enters (done ++ ahead) more input rest read before after) answers) sure)
stop_unsure {flow = flow} {out_old = out_old} (Unclosed is shape frames read fails) fault input rest text before after answers =
    λ sure. fails.unsure (sure_front out_old _ text (begins_itself _ _ (file_answers flow shape frames input text (file_held shape flow.enters frames input rest read before after) answers)) sure)
stop_unsure (Refused code offset is place more read counted gives) fault input rest text before after answers = absurd cc
stop_unsure (Unread is place more read rises gives) fault input rest text before after answers = absurd cc

stop_fails : {flow : Flow} {frames_old frames_new : SourceState} {out_old out_new : SinkState} {end : End} → Stops flow frames_old frames_new out_old out_new end
    → end ≡ Err Output → Rises out_old.faults out_new.faults
stop_fails (Unwritten is shape done ahead more read lags) fault = lags.fails.failed
stop_fails (Unclosed is shape frames read fails) fault = fails.failed
stop_fails (Refused code offset is place more read counted gives) fault = absurd cc
stop_fails (Unread is place more read rises gives) fault = absurd cc

sure_out : {S K N : Type 0} {o : Outside S K N} {flow : Flow} {was now : Moment S K N} {end : End} → Ends o flow was now end
    → end ≡ Err Output → (input rest text : List ℕ) → (o.frames was.frames).left ≡ Some input → (o.frames now.frames).left ≡ Some rest → Answers flow input text
    → IsSure (o.out was.out) (length text) → Rises (o.notes was.notes).faults (o.notes now.notes).faults × Stays (o.out was.out).faults (o.out now.out).faults
sure_out (Finished is shape frames read flushes gives) fault input rest text before after answers sure = absurd cc
sure_out (Unnoted is shape frames read flushes fails) fault input rest text before after answers sure = (fails.failed, flushes.counted)
sure_out (Stopped stops idle) fault input rest text before after answers sure = absurd (stop_unsure stops fault input rest text before after answers sure)

sure_notes : {S K N : Type 0} {o : Outside S K N} {flow : Flow} {was now : Moment S K N} {end : End} → Ends o flow was now end
    → end ≡ Err Output → (input rest : List ℕ) (shape : Shape) (frames : List (List ℤ)) → (o.frames was.frames).left ≡ Some input → (o.frames now.frames).left ≡ Some rest → IsFile shape flow.enters frames input
    → IsSure (o.notes was.notes) (length (flow.lines frames)) → Rises (o.out was.out).faults (o.out now.out).faults × (now.notes ≡ was.notes)
sure_notes (Finished is other all read flushes gives) fault input rest shape frames before after file sure = absurd cc
sure_notes {o = o} {flow} {was} (Unnoted is other all read flushes fails) fault input rest shape frames before after file sure =
    absurd (fails.unsure (subst (λ (fs : List (List ℤ)). IsSure (o.notes was.notes) (length (flow.lines fs))) (same_frames flow.enters shape other frames all input file (file_held other flow.enters all input rest read before after)).1 sure))
sure_notes (Stopped stops idle) fault input rest shape frames before after file sure = (stop_fails stops fault, idle)

-- ---- counts

as_counts : {S K N : Type 0} (o : Outside S K N) (was now : Moment S K N) (end other : End) → end ≡ other → Counts o was now other → Counts o was now end
as_counts o was now end other is c = subst (λ (z : End). Counts o was now z) (sym is) c

counts : {S K N : Type 0} {o : Outside S K N} {flow : Flow} {was now : Moment S K N} {end : End} → Ends o flow was now end → Counts o was now end
counts {o = o} {was = was} {now} {end} (Finished is shape frames read flushes gives) = as_counts o was now end _ is (read.counted, flushes.counted, gives.counted)
counts {o = o} {was = was} {now} {end} (Unnoted is shape frames read flushes fails) = as_counts o was now end _ is (inr (flushes.counted, fails.failed))
counts {o = o} {was = was} {now} {end} (Stopped (Unwritten is shape done ahead more read lags) idle) =
    as_counts o was now end _ is (inl (lags.fails.failed, ap (λ z. (o.notes z).faults) idle))
counts {o = o} {was = was} {now} {end} (Stopped (Unclosed is shape frames read fails) idle) =
    as_counts o was now end _ is (inl (fails.failed, ap (λ z. (o.notes z).faults) idle))
counts {o = o} {was = was} {now} {end} (Stopped (Refused code offset is place more read counted gives) idle) =
    as_counts o was now end _ is (counted, gives.counted, ap (λ z. (o.notes z).faults) idle)
counts {o = o} {was = was} {now} {end} (Stopped (Unread is place more read rises gives) idle) =
    as_counts o was now end _ is (rises, gives.counted, ap (λ z. (o.notes z).faults) idle)

-- ---- nothing gives up by itself

-- a file goes through, where no count rose
complete : {S K N : Type 0} {o : Outside S K N} {flow : Flow} {was now : Moment S K N} {end : End} → Ends o flow was now end
    → (shape : Shape) (frames : List (List ℤ)) → HeldFile flow (o.frames was.frames) (o.frames now.frames) shape frames → NoFault o was now → end ≡ Ok tt
complete (Finished is other all read flushes gives) shape frames held none = is
complete (Unnoted is other all read flushes fails) shape frames held none = absurd (none.notes fails.failed.rose)
complete (Stopped (Unwritten is other done ahead more read lags) idle) shape frames held none = absurd (none.out lags.fails.failed.rose)
complete (Stopped (Unclosed is other all read fails) idle) shape frames held none = absurd (none.out fails.failed.rose)
complete {flow = flow} (Stopped (Refused code offset is place more read counted gives) idle) shape frames held none =
    absurd (no_fault place shape flow.enters frames held.input code offset held.is (wrong_held _ _ flow.enters place code offset more held.input held.rest read held.held held.left))
complete (Stopped (Unread is place more read rises gives) idle) shape frames held none = absurd (none.frames rises.rose)

-- and where the sinks are sure to take what is given for it
sure : {S K N : Type 0} {o : Outside S K N} {flow : Flow} {was now : Moment S K N} {end : End} → Ends o flow was now end
    → (shape : Shape) (frames : List (List ℤ)) → HeldFile flow (o.frames was.frames) (o.frames now.frames) shape frames
    → IsSafeFor o was now (whole flow shape frames) (flow.lines frames) → end ≡ Ok tt
sure (Finished is other all read flushes gives) shape frames held safe = is
sure {o = o} {flow} {was} (Unnoted is other all read flushes fails) shape frames held safe =
    let same = (same_frames flow.enters shape other frames all held.input held.is (file_held other flow.enters all held.input held.rest read held.held held.left)).1 in
    absurd (fails.unsure (subst (λ (fs : List (List ℤ)). IsSure (o.notes was.notes) (length (flow.lines fs))) same safe.notes))
sure {flow = flow} {end = end} (Stopped (Unwritten is other done ahead more read lags) idle) shape frames held safe =
    absurd (stop_unsure {flow = flow} {end = end} (Unwritten is other done ahead more read lags) is held.input held.rest (whole flow shape frames) held.held held.left (Whole shape frames held.is refl) safe.out)
sure {flow = flow} {end = end} (Stopped (Unclosed is other all read fails) idle) shape frames held safe =
    absurd (stop_unsure {flow = flow} {end = end} (Unclosed is other all read fails) is held.input held.rest (whole flow shape frames) held.held held.left (Whole shape frames held.is refl) safe.out)
sure {flow = flow} (Stopped (Refused code offset is place more read counted gives) idle) shape frames held safe =
    absurd (no_fault place shape flow.enters frames held.input code offset held.is (wrong_held _ _ flow.enters place code offset more held.input held.rest read held.held held.left))
sure (Stopped (Unread is place more read rises gives) idle) shape frames held safe = absurd (safe.frames rises.rose)

-- what is no file is refused, where no count rose
refuses : {S K N : Type 0} {o : Outside S K N} {flow : Flow} {was now : Moment S K N} {end : End} → Ends o flow was now end
    → HeldNoFile flow (o.frames was.frames) (o.frames now.frames) → NoFault o was now → IsRefused end
refuses {flow = flow} (Finished is shape all read flushes gives) held none =
    absurd (held.no_file shape all (file_held shape flow.enters all held.input held.rest read held.held held.left))
refuses {flow = flow} (Unnoted is shape all read flushes fails) held none =
    absurd (held.no_file shape all (file_held shape flow.enters all held.input held.rest read held.held held.left))
refuses (Stopped (Unwritten is shape done ahead more read lags) idle) held none = absurd (none.out lags.fails.failed.rose)
refuses (Stopped (Unclosed is shape all read fails) idle) held none = absurd (none.out fails.failed.rose)
refuses (Stopped (Refused code offset is place more read counted gives) idle) held none = (code, offset, is)
refuses (Stopped (Unread is place more read rises gives) idle) held none = absurd (none.frames rises.rose)

-- all that is said of a flow follows from its end
pub streams : {S K N : Type 0} {o : Outside S K N} {flow : Flow} {was now : Moment S K N} {end : End}
    → Ends o flow was now end → (end ≡ Err Output → FramesStay o was now) → Streams o flow was now end
streams ends still = record {
  ends = ends;
  counts = counts ends;
  source_stays = still;
  answered = λ text a. answered ends a.input a.rest text a.held a.left a.is;
  sure_out = λ fault text a. sure_out ends fault a.input a.rest text a.held a.left a.is;
  sure_notes = λ fault shape frames a. sure_notes ends fault a.input a.rest shape frames a.held a.left a.is;
  complete = λ shape frames held none. complete ends shape frames held none;
  refuses = λ held none. refuses ends held none;
  sure = λ shape frames held safe. sure ends shape frames held safe;
}

-- the flow stopped before notes were due
pub halted : {S K N : Type 0} {o : Outside S K N} {flow : Flow} {was now : Moment S K N} (end : End) (stop : Stop) → (x : Stop) × (end ≡ Err x) × (x ≡ stop)
    → Halts flow (o.frames was.frames) (o.frames now.frames) (o.out was.out) (o.out now.out) (Err stop) → now.notes ≡ was.notes → Streams o flow was now end
halted {o = o} {flow} {was} {now} end stop is halts idle =
    subst (λ (z : End). Streams o flow was now z) (sym (is.1 ∙ ap Err is.2)) (streams (Stopped halts.stops idle) halts.still)
