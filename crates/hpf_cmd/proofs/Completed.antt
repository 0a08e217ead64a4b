-- What follows from how a request ended: whose count rose, and that nothing gives up by itself.
use Rattle.std.proofs.Common.{◌≡◌, ◌≢◌, ◌⊎◌, inl, inr, Ok, Err, ℕ, ℤ, None, List, length, [], ◌∷◌, Some, refl, sym, ap, ◌∙◌, subst}
use Rattle.hpf_io.specs.States.{LoaderState, SourceState, SinkState, IsSure}
use Rattle.hpf_io.specs.Files.{Files}
use Rattle.hpf_frame.specs.FrameFile.{Shape}
use Rattle.hpf_frame.specs.declared.error.InputError.TheVariants as input
use Rattle.hpf_request.specs.Deed.{Deed, Print, Compose, Stream, TellsNotes, IsDue, Printed, Composed, Streamed, IsUnreadable}
use Rattle.hpf_request.specs.Denials.{IsDenial}
use Rattle.hpf_request.specs.Loads.{IsFound, IsSafelyFound, LoadFails, LoadsNoFault, KeepsFiles}
use Rattle.hpf_request.specs.Words.{built}
use Rattle.hpf_words.specs.declared.asked.Asked.{Asked}
use Rattle.hpf_words.specs.Words.{AsksFor}
use Rattle.hpf_cmd.specs.Promises.{Promises}
use Rattle.hpf_request.specs.Order.{Verdict, Granted, Denied, Order, IsGranted}
use Rattle.hpf_status.specs.declared.status.Status.{Status}
use Rattle.hpf_status.specs.declared.status.Status.TheVariants as status
use Rattle.hpf_status.specs.Ends.{IsAnswered, OrMemory, IsRefusal}
use Rattle.hpf_stream.specs.declared.stop.Stop.TheVariants.{Input, Output}
use Rattle.hpf_stream.specs.Ends.{End}
use Rattle.hpf_stream.specs.Flow.{Flow, whole}
use Rattle.hpf_stream.specs.Outside.{Outside, Moment, FramesStay, OutStays, NotesStay}
use Rattle.hpf_stream.specs.Streams.{Counts, HeldFile, HeldNoFile}
use Rattle.hpf_cmd.specs.Causes.{Causes, NoneRises, IsSafe}
use Rattle.hpf_cmd.specs.Does.{Does, Follows, Untouched}
use Rattle.hpf_cmd.specs.Ended.{end_status, IsOfDeed}
use Rattle.hpf_cmd.specs.Prints.{Tells, All, OutFails, NotesFail, Makes, Made, Unmade, RunsOut}

-- ---- counts

as_causes : {S K N : Type 0} (o : Outside S K N) (was now : Moment S K N) (end other : Status) → end ≡ other → Causes o was now other → Causes o was now end
as_causes o was now end other is c = subst (λ (z : Status). Causes o was now z) (sym is) c

tells_causes : {S K N : Type 0} (o : Outside S K N) (was now : Moment S K N) (text lines : List ℕ) (end : Status)
    → FramesStay o was now → Tells o was now text lines end → Causes o was now end
tells_causes o was now text lines end still (All is flushes gives) = as_causes o was now end _ is (still, flushes.counted, gives.counted)
tells_causes o was now text lines end still (OutFails is fails idle) =
    as_causes o was now end _ is (inl (fails.failed, ap (λ z. (o.notes z).faults) idle))
tells_causes o was now text lines end still (NotesFail is some flushes fails) = as_causes o was now end _ is (inr (flushes.counted, fails.failed))

makes_causes : {S K N : Type 0} (o : Outside S K N) (was now : Moment S K N) (text : List ℕ) (end : Status)
    → FramesStay o was now → NotesStay o was now → Makes (o.out was.out) (o.out now.out) text end → Causes o was now end
makes_causes o was now text end still quiet (Made is flushes) = as_causes o was now end _ is (still, flushes.counted, quiet)
makes_causes o was now text end still quiet (Unmade is fails) = as_causes o was now end _ is (inl (fails.failed, quiet))
makes_causes o was now text end still quiet (RunsOut is begins) = as_causes o was now end _ is (still, begins.counted, quiet)

counts_causes : {S K N : Type 0} (o : Outside S K N) (was now : Moment S K N) (end : End) → Counts o was now end → Causes o was now (end_status end)
counts_causes o was now (Ok u) c = c
counts_causes o was now (Err (Input (input.Refused code offset))) c = c
counts_causes o was now (Err (Input input.ReadFault)) c = c
counts_causes o was now (Err Output) c = c

does_causes : {S K N : Type 0} (o : Outside S K N) (was now : Moment S K N) (deed : Deed) (end : Status) → Does o was now deed end → Causes o was now end
does_causes o was now (Print text lines) end p = tells_causes o was now text lines end (ap (λ z. (o.frames z).faults) p.unread) p.told
does_causes o was now (Compose text) end p =
    makes_causes o was now text end (ap (λ z. (o.frames z).faults) p.unread) (ap (λ z. (o.notes z).faults) p.quiet) p.made
does_causes o was now (Stream flow) end p = as_causes o was now end _ p.2 (counts_causes o was now p.0 p.1.counts)

untouched_stay : {S K N : Type 0} (o : Outside S K N) (was now : Moment S K N) → Untouched was now → FramesStay o was now × OutStays o was now × NotesStay o was now
untouched_stay o was now u = (ap (λ z. (o.frames z).faults) u.frames, ap (λ z. (o.out z).faults) u.out, ap (λ z. (o.notes z).faults) u.notes)

-- where nothing was touched, no count rose
pub denied_causes : {S K N : Type 0} (o : Outside S K N) (was now : Moment S K N) (end : Status) → IsDenial end → Untouched was now → Causes o was now end
denied_causes o was now (status.Usage code) denial u = untouched_stay o was now u
denied_causes o was now (status.MapRefused code line column) denial u = untouched_stay o was now u
denied_causes o was now (status.PlanTooLarge elements) denial u = untouched_stay o was now u
denied_causes o was now status.LoadFault denial u = untouched_stay o was now u
denied_causes o was now status.OutOfMemory denial u = untouched_stay o was now u
denied_causes o was now status.Ok denial u = absurd denial
denied_causes o was now (status.InputRefused code offset) denial u = absurd denial
denied_causes o was now status.ReadFault denial u = absurd denial
denied_causes o was now status.WriteFault denial u = absurd denial

-- a status is want of memory or not
memory_or : (end : Status) → (end ≡ status.OutOfMemory) ⊎ (end ≢ status.OutOfMemory)
memory_or status.Ok = inr (λ e. cc)
memory_or (status.Usage code) = inr (λ e. cc)
memory_or (status.MapRefused code line column) = inr (λ e. cc)
memory_or (status.InputRefused code offset) = inr (λ e. cc)
memory_or (status.PlanTooLarge elements) = inr (λ e. cc)
memory_or status.ReadFault = inr (λ e. cc)
memory_or status.WriteFault = inr (λ e. cc)
memory_or status.LoadFault = inr (λ e. cc)
memory_or status.OutOfMemory = inl refl

-- what was asked for was done, or found too little memory
pub done_causes : {S K N : Type 0} (o : Outside S K N) (was now : Moment S K N) (deed : Deed) (end : Status)
    → (end ≢ status.OutOfMemory → Does o was now deed end) → (end ≡ status.OutOfMemory → Untouched was now) → Causes o was now end
done_causes o was now deed end done memory = elim (memory_or end) [
  | inl is ↦ as_causes o was now end status.OutOfMemory is (untouched_stay o was now (memory is))
  | inr isnt ↦ does_causes o was now deed end (done isnt)
]

-- the source had no fault where a write failed
failed_output : (end : End) → end_status end ≡ status.WriteFault → end ≡ Err Output
failed_output (Ok u) is = absurd cc
failed_output (Err (Input (input.Refused code offset))) is = absurd cc
failed_output (Err (Input input.ReadFault)) is = absurd cc
failed_output (Err Output) is = refl

pub source_stays : {S K N : Type 0} (o : Outside S K N) (was now : Moment S K N) (deed : Deed) (end : Status)
    → Does o was now deed end → end ≡ status.WriteFault → FramesStay o was now
source_stays o was now (Print text lines) end p fault = ap (λ z. (o.frames z).faults) p.unread
source_stays o was now (Compose text) end p fault = ap (λ z. (o.frames z).faults) p.unread
source_stays o was now (Stream flow) end p fault = p.1.source_stays (failed_output p.0 (sym p.2 ∙ fault))

-- ---- nothing gives up by itself

-- a print with lines tells notes
tells_notes : (text lines : List ℕ) → lines ≢ [] → TellsNotes (Print text lines)
tells_notes text [] some = some refl
tells_notes text (line ∷ lines) some = tt

-- a flow came to its end
went_through : (end : Status) (how : End) → end ≡ end_status how → how ≡ Ok tt → end ≡ status.Ok
went_through end how is through = is ∙ ap end_status through

streamed_held : {before after : SourceState} (flow other : Flow) (shape : Shape) (frames : List (List ℤ)) → other ≡ flow → HeldFile other before after shape frames → HeldFile flow before after shape frames
streamed_held {before} {after} flow other shape frames same held = subst (λ (f : Flow). HeldFile f before after shape frames) same held

-- what is due was given, where no count rose
does_all : {S K N : Type 0} (o : Outside S K N) (was now : Moment S K N) (deed : Deed) (text lines : List ℕ) (end : Status)
    → Does o was now deed end → end ≢ status.OutOfMemory → IsDue (o.frames was.frames) (o.frames now.frames) deed text lines
    → NoneRises o was now deed → end ≡ status.Ok
does_all o was now (Print text' lines') text lines end p memory due none = told_all p.told
  where
    told_all : Tells o was now text' lines' end → end ≡ status.Ok
    told_all (All is flushes gives) = is
    told_all (OutFails is fails idle) = absurd (none.out fails.failed.rose)
    told_all (NotesFail is some flushes fails) = absurd (none.notes (tells_notes text' lines' some) fails.failed.rose)
does_all o was now (Compose text') text lines end p memory due none = made_all p.made
  where
    made_all : Makes (o.out was.out) (o.out now.out) text' end → end ≡ status.Ok
    made_all (Made is flushes) = is
    made_all (Unmade is fails) = absurd (none.out fails.failed.rose)
    made_all (RunsOut is begins) = absurd (memory is)
does_all o was now (Stream flow) text lines end p memory (Printed is) none = absurd cc
does_all o was now (Stream flow) text lines end p memory (Composed is no_lines) none = absurd cc
does_all o was now (Stream flow) text lines end p memory (Streamed other shape frames is held text_is lines_is) none =
    let same : other ≡ flow = cc in
    went_through end p.0 p.2
    (p.1.complete shape frames (streamed_held flow other shape frames same held) (record { frames = none.frames tt; out = none.out; notes = none.notes tt }))

-- a text that the sink is not sure to take is not the one that it is
not_sure : (sink : SinkState) (told due : List ℕ) → told ≡ due → ¬ IsSure sink (length told) → ¬ IsSure sink (length due)
not_sure sink told due same unsure = subst (λ (t : List ℕ). ¬ IsSure sink (length t)) same unsure

-- what is due was given, where out is sure to take the text and notes the lines
does_sure : {S K N : Type 0} (o : Outside S K N) (was now : Moment S K N) (deed : Deed) (text lines : List ℕ) (end : Status)
    → Does o was now deed end → end ≢ status.OutOfMemory → IsDue (o.frames was.frames) (o.frames now.frames) deed text lines
    → IsSafe o was now deed text lines → end ≡ status.Ok
does_sure o was now (Print text' lines') text lines end p memory (Printed same) safe = told_all p.told
  where
    told_all : Tells o was now text' lines' end → end ≡ status.Ok
    told_all (All is flushes gives) = is
    told_all (OutFails is fails idle) = let one : text' ≡ text = cc in absurd (not_sure (o.out was.out) text' text one fails.unsure safe.out)
    told_all (NotesFail is some flushes fails) =
        let one : lines' ≡ lines = cc in absurd (not_sure (o.notes was.notes) lines' lines one fails.unsure (safe.notes (tells_notes text' lines' some)))
does_sure o was now (Print text' lines') text lines end p memory (Composed is no_lines) safe = absurd cc
does_sure o was now (Print text' lines') text lines end p memory (Streamed other shape frames is held text_is lines_is) safe = absurd cc
does_sure o was now (Compose text') text lines end p memory (Composed same no_lines) safe = made_all p.made
  where
    made_all : Makes (o.out was.out) (o.out now.out) text' end → end ≡ status.Ok
    made_all (Made is flushes) = is
    made_all (Unmade is fails) = let one : text' ≡ text = cc in absurd (not_sure (o.out was.out) text' text one fails.unsure safe.out)
    made_all (RunsOut is begins) = absurd (memory is)
does_sure o was now (Compose text') text lines end p memory (Printed is) safe = absurd cc
does_sure o was now (Compose text') text lines end p memory (Streamed other shape frames is held text_is lines_is) safe = absurd cc
does_sure o was now (Stream flow) text lines end p memory (Printed is) safe = absurd cc
does_sure o was now (Stream flow) text lines end p memory (Composed is no_lines) safe = absurd cc
does_sure o was now (Stream flow) text lines end p memory (Streamed other shape frames is held text_is lines_is) safe =
    let same : other ≡ flow = cc in
    went_through end p.0 p.2
    (p.1.sure shape frames (streamed_held flow other shape frames same held) (record {
      frames = safe.frames tt;
      out = subst (λ (t : List ℕ). IsSure (o.out was.out) (length t)) (text_is ∙ ap (λ (f : Flow). whole f shape frames) same) safe.out;
      notes = subst (λ (t : List ℕ). IsSure (o.notes was.notes) (length t)) (lines_is ∙ ap (λ (f : Flow). f.lines frames) same) (safe.notes tt);
    }))

-- what can't be read is refused, where no count rose
does_refuse : {S K N : Type 0} (o : Outside S K N) (was now : Moment S K N) (deed : Deed) (end : Status)
    → Does o was now deed end → IsUnreadable (o.frames was.frames) (o.frames now.frames) deed → NoneRises o was now deed → IsRefusal end
does_refuse o was now (Print text lines) end p due none = absurd (let e = due.is in cc)
does_refuse o was now (Compose text) end p due none = absurd (let e = due.is in cc)
does_refuse o was now (Stream flow) end p due none =
    let same : due.flow ≡ flow = let e = due.is in cc in
    let held = subst (λ (f : Flow). HeldNoFile f (o.frames was.frames) (o.frames now.frames)) same due.held in
    let refused = p.1.refuses held (record { frames = none.frames tt; out = none.out; notes = none.notes tt }) in
    (refused.0, refused.1, p.2 ∙ ap end_status refused.2)

-- ---- the call

-- the words and the text come to one verdict, where the files are told
abbrev pub OneVerdict : Type 0
OneVerdict = (words : List (List ℕ)) (loader : LoaderState) (all : Files) (v w : Verdict) → loader.files ≡ Some all → Order words loader v → Order words loader w → v ≡ w

-- what came of the words and the text
abbrev pub Came : {S K N : Type 0} → Outside S K N → Moment S K N → Moment S K N → List (List ℕ) → LoaderState → Status → Type 0
Came o was now words loader end = IsAnswered end → (verdict : Verdict) × Order words loader verdict × Follows o was now verdict end

granted_done : {S K N : Type 0} (o : Outside S K N) (was now : Moment S K N) (words : List (List ℕ)) (loader : LoaderState) (deed : Deed) (verdict : Verdict) (end : Status)
    → OneVerdict → IsGranted words loader deed → Order words loader verdict → Follows o was now verdict end → Does o was now deed end
granted_done o was now words loader deed verdict end one granted order follows =
    subst (λ (v : Verdict). Follows o was now v end) (one words loader granted.all verdict (Granted deed) granted.told order granted.order) follows

-- an end, or want of memory
unless_memory : {P : Type 0} (end : Status) → (end ≢ status.OutOfMemory → P) → OrMemory end P
unless_memory end p = elim (memory_or end) [ inl is ↦ inr is | inr isnt ↦ inl (p isnt) ]

pub completes : {S K N : Type 0} (o : Outside S K N) (was now : Moment S K N) (words : List (List ℕ)) (loader : LoaderState) (deed : Deed) (text lines : List ℕ) (end : Status)
    → OneVerdict → Came o was now words loader end → IsGranted words loader deed → end ≢ status.LoadFault
    → IsDue (o.frames was.frames) (o.frames now.frames) deed text lines → NoneRises o was now deed → OrMemory end (end ≡ status.Ok)
completes o was now words loader deed text lines end one came granted loaded due none =
    unless_memory end (λ memory.
    let how = came (record { loaded = loaded; room = memory }) in
    does_all o was now deed text lines end (granted_done o was now words loader deed how.0 end one granted how.1 how.2) memory due none)

pub surely_completes : {S K N : Type 0} (o : Outside S K N) (was now : Moment S K N) (words : List (List ℕ)) (loader : LoaderState) (deed : Deed) (text lines : List ℕ) (end : Status)
    → OneVerdict → Came o was now words loader end → IsGranted words loader deed → end ≢ status.LoadFault
    → IsDue (o.frames was.frames) (o.frames now.frames) deed text lines → IsSafe o was now deed text lines → OrMemory end (end ≡ status.Ok)
surely_completes o was now words loader deed text lines end one came granted loaded due safe =
    unless_memory end (λ memory.
    let how = came (record { loaded = loaded; room = memory }) in
    does_sure o was now deed text lines end (granted_done o was now words loader deed how.0 end one granted how.1 how.2) memory due safe)

pub refuses : {S K N : Type 0} (o : Outside S K N) (was now : Moment S K N) (words : List (List ℕ)) (loader : LoaderState) (deed : Deed) (end : Status)
    → OneVerdict → Came o was now words loader end → IsGranted words loader deed → end ≢ status.LoadFault
    → IsUnreadable (o.frames was.frames) (o.frames now.frames) deed → NoneRises o was now deed → OrMemory end (IsRefusal end)
refuses o was now words loader deed end one came granted loaded due none =
    unless_memory end (λ memory.
    let how = came (record { loaded = loaded; room = memory }) in
    does_refuse o was now deed end (granted_done o was now words loader deed how.0 end one granted how.1 how.2) due none)

-- what was asked for never ends as a load that failed, or as words that are refused
pub no_load_fault : (end : Status) → IsOfDeed end → end ≢ status.LoadFault
no_load_fault end of is = subst IsOfDeed is of

pub no_usage : (end : Status) (code : ℕ) → IsOfDeed end → end ≢ status.Usage code
no_usage end code of is = subst IsOfDeed is of

-- ---- all promises

-- a deed that was granted, and done
pub granted_keeps : {L S K N : Type 0} (l : L → LoaderState) (o : Outside S K N) (words : List (List ℕ)) (before after : L) (was now : Moment S K N) (deed : Deed) (end : Status)
    → OneVerdict → Order words (l after) (Granted deed)
    → (((asked : Asked) (name : List ℕ) → ¬ AsksFor words asked name) → ⊥)
    → ((asked : Asked) (name : List ℕ) → AsksFor words asked name → built asked ≡ None → ⊥)
    → LoadsNoFault (l before) (l after) → KeepsFiles (l before) (l after)
    → (end ≢ status.OutOfMemory → Does o was now deed end) → IsOfDeed end → (end ≡ status.OutOfMemory → Untouched was now)
    → Promises l o words before after was now end
granted_keeps l o words before after was now deed end one order asks is_built loads keeps done kinds memory = record {
  order = came;
  usage = λ none. absurd (asks none);
  not_built = λ asked name asks' unbuilt. absurd (is_built asked name asks' unbuilt);
  unasked = λ is. absurd (elim is [ inl e ↦ no_usage end 1 kinds e | inr e ↦ no_usage end 9 kinds e ]);
  unloaded = λ fault. absurd (no_load_fault end kinds fault);
  memory = λ is. inl (memory is);
  load_fault = λ fault. absurd (no_load_fault end kinds fault);
  loads = λ other. loads;
  kept = keeps;
  causes = done_causes o was now deed end done memory;
  source_stays = λ fault. source_stays o was now deed end (done (λ e. absurd cc)) fault;
  complete = λ due_deed text lines granted found due none. completes o was now words (l after) due_deed text lines end one came granted (no_load_fault end kinds) due none;
  refuses = λ due_deed granted found due none. refuses o was now words (l after) due_deed end one came granted (no_load_fault end kinds) due none;
  sure = λ due_deed text lines granted found due safe. surely_completes o was now words (l after) due_deed text lines end one came granted (no_load_fault end kinds) due safe;
}
  where
    came : Came o was now words (l after) end
    came answered = (Granted deed, order, done answered.room)

-- what was denied, before anything was begun
pub denied_keeps : {L S K N : Type 0} (l : L → LoaderState) (o : Outside S K N) (words : List (List ℕ)) (before after : L) (was : Moment S K N) (end : Status)
    → OneVerdict → (end ≢ status.LoadFault → end ≢ status.OutOfMemory → Order words (l after) (Denied end))
    → (((asked : Asked) (name : List ℕ) → ¬ AsksFor words asked name) → OrMemory end (end ≡ status.Usage 1))
    → ((asked : Asked) (name : List ℕ) → AsksFor words asked name → built asked ≡ None → OrMemory end (end ≡ status.Usage 9))
    → ((end ≡ status.Usage 1) ⊎ (end ≡ status.Usage 9) → after ≡ before)
    → (end ≡ status.LoadFault → LoadFails words (l before) (l after)) → (end ≢ status.LoadFault → LoadsNoFault (l before) (l after))
    → KeepsFiles (l before) (l after) → IsDenial end
    → Promises l o words before after was was end
denied_keeps l o words before after was end one denied usage not_built unasked load_fault loads keeps denial = record {
  order = came;
  usage = usage;
  not_built = not_built;
  unasked = unasked;
  unloaded = λ fault. untouched;
  memory = λ is. inl untouched;
  load_fault = load_fault;
  loads = loads;
  kept = keeps;
  causes = denied_causes o was was end denial untouched;
  source_stays = λ fault. refl;
  complete = λ deed text lines granted found due none. completes o was was words (l after) deed text lines end one came granted (no_loss found) due none;
  refuses = λ deed granted found due none. refuses o was was words (l after) deed end one came granted (no_loss found) due none;
  sure = λ deed text lines granted found due safe. surely_completes o was was words (l after) deed text lines end one came granted (no_chance found) due safe;
}
  where
    untouched : Untouched was was
    untouched = record { frames = refl; out = refl; notes = refl }

    came : Came o was was words (l after) end
    came answered = (Denied end, denied answered.loaded answered.room, (refl, untouched))

    no_loss : IsFound words (l before) (l after) → end ≢ status.LoadFault
    no_loss found e = let f = load_fault e in found f.rises.rose f.asked f.name f.asks f.missed_it

    no_chance : IsSafelyFound words (l before) → end ≢ status.LoadFault
    no_chance found e = let f = load_fault e in found f.asked f.name f.asks f.could
