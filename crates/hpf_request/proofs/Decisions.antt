-- What the calls answer, from what came of the ones below.
use Rattle.std.proofs.Common.{◌≡◌, ◌≢◌, ◌+◌, ◌<◌, ◌≤◌, nat_le, nat_lt, Bool, true, false, ℕ, arith, List, [], Some, None, Result, Ok, Err, IfOk, IfErr, length, refl, sym, ap, ◌∙◌, subst}
use Rattle.std.proofs.lemmas.Bool.Decides.{nat_tests}
use Rattle.hpf_io.specs.Files.{Files, HasFront}
use Rattle.hpf_io.specs.States.{LoaderState}
use Rattle.hpf_frame.specs.FrameFile.{version_one, elements}
use Rattle.hpf_gen.specs.Generated.{generated}
use Rattle.hpf_lex.specs.declared.refusal.MapError.{MapError}
use Rattle.hpf_lex.specs.declared.refusal.MapError.TheVariants as answer
use Rattle.hpf_lex.specs.Statement.{max_text}
use Rattle.hpf_lex.specs.Text.{IfRefused}
use Rattle.hpf_map.specs.declared.program.Need.{Need}
use Rattle.hpf_map.specs.declared.program.Need.TheVariants as needed
use Rattle.hpf_map.specs.Built.{not_built}
use Rattle.hpf_map.specs.Refusal.{refusal, Resolves}
use Rattle.hpf_own.specs.Held.{Part, owned_part, held_part}
use Rattle.hpf_own.specs.Mapping.{PlainMapping}
use Rattle.hpf_own.specs.Space.{product}
use Rattle.hpf_report.specs.LocalText.{local_text}
use Rattle.hpf_status.specs.declared.status.Status.{Status}
use Rattle.hpf_status.specs.declared.status.Status.TheVariants as status
use Rattle.hpf_status.specs.Statuses.{refusal_status, text_status}
use Rattle.hpf_syntax.specs.Canonical.{canonical}
use Rattle.hpf_syntax.specs.Parsed.{Says, IsFaultOf}
use Rattle.hpf_syntax.specs.Plain.{ItemTree}
use Rattle.hpf_syntax.specs.declared.tree.Item.{Item}
use Rattle.hpf_request.specs.declared.request.Request.{Request}
use Rattle.hpf_request.specs.declared.words.Action.{Action}
use Rattle.hpf_request.specs.declared.words.Action.TheVariants as action
use Rattle.hpf_request.specs.Decided.{ComesTo, Decided, Judged}
use Rattle.hpf_request.specs.Deed.{Print, Compose, Stream}
use Rattle.hpf_request.specs.Denials.{IsOfText}
use Rattle.hpf_request.specs.Form.{Form, IsFormOf}
use Rattle.hpf_request.specs.Named.{IsNamed, IsUnnamed, Broken, NoArray}
use Rattle.hpf_request.specs.Order.{Verdict, Denied, Granted, Judges, Faulty, Refused, Passed, Comes, Decides, Order, OfText, IsLoaded, refused_by, most_elements, run_verdict, local_verdict}
use Rattle.hpf_request.specs.Pipeline.{flow_of}
use Rattle.hpf_request.specs.Request.{deed_of, IsMet}
use Rattle.hpf_request.specs.Stages.{has_stage, run_refusal}
use Rattle.hpf_request.specs.Words.{Asks}

-- ---- denied, granted

-- what is denied by a status that a call hands on
pub denied_as : {Is : Verdict → Type 0} (r : Result Request Status) (end : Status) → r ≡ Err end → IsOfText end → (end ≢ status.OutOfMemory → Is (Denied end)) → ComesTo Is r
denied_as {Is} r end is kind denied =
    subst (λ (z : Result Request Status). ComesTo Is z) (sym is) (record { granted = tt; met = tt; denied = denied; kinds = kind })

-- there was too little memory
pub no_memory : {Is : Verdict → Type 0} (r : Result Request Status) (end : Status) → r ≡ Err end → end ≡ status.OutOfMemory → ComesTo Is r
no_memory r end is memory = denied_as r end is (subst IsOfText (sym memory) tt) (λ room. absurd (room memory))

pub granted_as : {Is : Verdict → Type 0} (request : Request) → Is (Granted (deed_of request)) → IsMet request → ComesTo Is (Ok request)
granted_as request granted met = record { granted = granted; met = met; denied = tt; kinds = tt }

pub of_text : (e : MapError) (end : Status) → end ≡ text_status e → IsOfText end
of_text (answer.Refused r) end is = subst IsOfText (sym is) tt
of_text (answer.Memory m) end is = subst IsOfText (sym is) tt

-- what is said of a status that a call hands on
pub denied_by : {T : Type 0} (P : Status → Type 0) (r : Result T Status) (end : Status) → r ≡ Err end → P end → IfErr r P
denied_by P r end is p = subst (λ (z : _). IfErr z P) (sym is) p

-- ---- texts and statements

-- a text that was not read is refused for its fault
pub faulty : (asked : Action) (text : List ℕ) (e : MapError) (end : Status) → end ≡ text_status e → IfRefused {A = List Item} (Err e) (IsFaultOf text) → end ≢ status.OutOfMemory → Judges asked text (Denied end)
faulty asked text (answer.Refused r) end is fault memory = Faulty r fault (ap Denied is)
faulty asked text (answer.Memory m) end is fault memory = absurd (memory is)

-- statements that are refused for what they mean
pub unresolved : (asked : Action) (need : Need) (items : List ItemTree) (e : MapError) (end : Status) → refused_by asked items ≡ refusal need items → end ≡ text_status e → Resolves (Err e) need items → end ≢ status.OutOfMemory → Decides asked items (Denied end)
unresolved asked need items (answer.Refused r) end same is why memory text says = Refused items says r (same ∙ why) (ap Denied is)
unresolved asked need items (answer.Memory m) end same is why memory text says = absurd (memory is)

-- statements that an action does not refuse for what they mean
pub passed : (asked : Action) (items : List ItemTree) (verdict : Verdict) → refused_by asked items ≡ None → Comes asked items verdict → Decides asked items verdict
passed asked items verdict none comes text says = Passed items says none comes

-- statements that are shown
pub shown : (asked : Action) (text : List ℕ) (items : List ItemTree) → asked ≡ action.Show → Says text items → Judges asked text (Granted (Print (canonical items) []))
shown asked text items is says =
    subst (λ (z : Action). Judges z text (Granted (Print (canonical items) []))) (sym is) (Passed items says refl refl)

-- what statements come to, once a text says them
pub judged_as : (asked done : Action) (text : List ℕ) (items : List ItemTree) (r : Result Request Status) → asked ≡ done → Says text items → Decided done items r → Judged asked text r
judged_as asked done text items (Ok request) is says d =
    granted_as request (subst (λ (z : Action). Judges z text (Granted (deed_of request))) (sym is) (d.granted text says)) d.met
judged_as asked done text items (Err end) is says d =
    denied_as (Err end) end refl d.kinds (λ memory. subst (λ (z : Action). Judges z text (Denied end)) (sym is) (d.denied memory text says))

-- ---- forms

-- statements that have a STAGE line are refused for it, and others for what they mean
pub staged : (items : List ItemTree) (end : Status) → has_stage items ≡ true → end ≡ refusal_status not_built → Decides action.Run items (Denied end)
staged items end some why text says = Refused items says not_built (rw some refl) (ap Denied why)

pub unstaged : (items : List ItemTree) → has_stage items ≡ false → run_refusal items ≡ refusal needed.Pipeline items
unstaged items none = rw none refl

-- a form with too many elements, and one that runs
pub too_long : (items : List ItemTree) (form : Form) (end : Status) → run_refusal items ≡ None → IsFormOf items form → most_elements < elements form.extents → end ≡ refusal_status not_built → Decides action.Run items (Denied end)
too_long items form end none is long why = passed action.Run items (Denied end) none (form, is, by (nat_le (elements form.extents) most_elements) refl)
  where
    by : (b : Bool) → nat_le (elements form.extents) most_elements ≡ b → Denied end ≡ run_verdict form
    by true few = absurd (grind (arith, nat_tests, few, long))
    by false many = rw many (ap Denied why)

pub ran : (items : List ItemTree) (form : Form) → run_refusal items ≡ None → IsFormOf items form → elements form.extents ≤ most_elements → Decides action.Run items (Granted (Stream (flow_of form)))
ran items form none is few = passed action.Run items (Granted (Stream (flow_of form))) none (form, is, by (nat_le (elements form.extents) most_elements) refl)
  where
    by : (b : Bool) → nat_le (elements form.extents) most_elements ≡ b → Granted (Stream (flow_of form)) ≡ run_verdict form
    by true at = rw at refl
    by false many = absurd (grind (arith, nat_tests, few, many))

-- frames are made for a form
pub made : (items : List ItemTree) (frames seed : ℕ) (form : Form) (extents : List ℕ) → refusal needed.Pipeline items ≡ None → IsFormOf items form → extents ≡ form.extents → Decides (action.Make frames seed) items (Granted (Compose (generated version_one extents seed frames)))
made items frames seed form extents none is same =
    passed (action.Make frames seed) items (Granted (Compose (generated version_one extents seed frames))) none (form, is, ap (λ (z : List ℕ). Granted (Compose (generated version_one z seed frames))) same)

-- ---- processors and names

-- a processor that is there, and one that isn't
pub holder : (items : List ItemTree) (name : List ℕ) (p : ℕ) (m : PlainMapping) (owned held : Part) → refusal needed.Mapping items ≡ None → IsNamed items name (Some m) → p < product m.procs → owned ≡ owned_part m p → held ≡ held_part m p
    → Decides (action.Local name p) items (Granted (Print (local_text owned.indices held.indices) []))
holder items name p m owned held none is below owned_is held_is =
    passed (action.Local name p) items (Granted (Print (local_text owned.indices held.indices) [])) none (Some m, is, by (nat_lt p (product m.procs)) refl)
  where
    by : (b : Bool) → nat_lt p (product m.procs) ≡ b → Granted (Print (local_text owned.indices held.indices) []) ≡ local_verdict p (Some m)
    by true at =
        rw at
        (ap (λ (z : Part). Granted (Print (local_text z.indices held.indices) [])) owned_is ∙ ap (λ (z : Part). Granted (Print (local_text (owned_part m p).indices z.indices) [])) held_is)
    by false at = absurd (grind (arith, nat_tests, below, at))

pub no_holder : (items : List ItemTree) (name : List ℕ) (p : ℕ) (m : PlainMapping) (end : Status) → refusal needed.Mapping items ≡ None → IsNamed items name (Some m) → product m.procs ≤ p → end ≡ status.Usage 3
    → Decides (action.Local name p) items (Denied end)
no_holder items name p m end none is above why = passed (action.Local name p) items (Denied end) none (Some m, is, by (nat_lt p (product m.procs)) refl)
  where
    by : (b : Bool) → nat_lt p (product m.procs) ≡ b → Denied end ≡ local_verdict p (Some m)
    by true at = absurd (grind (arith, nat_tests, above, at))
    by false at = rw at (ap Denied why)

-- statements without a mapped array by the name that an action has
unnamed : (asked : Action) (items : List ItemTree) (name : List ℕ) (end : Status) → refused_by asked items ≡ refusal needed.Mapping items → (IsNamed items name None → end ≡ status.Usage 2 → Comes asked items (Denied end)) → IsUnnamed items name end
    → Decides asked items (Denied end)
unnamed asked items name end same comes (Broken r is e) text says = Refused items says r (same ∙ is) (ap Denied e)
unnamed asked items name end same comes (NoArray none named e) text says = passed asked items (Denied end) (same ∙ none) (comes named e) text says

-- the same of a status that a call hands on
pub denied_name : (r : Result Request Status) (asked : Action) (items : List ItemTree) (name : List ℕ) (first end : Status) → r ≡ Err end → end ≡ first → refused_by asked items ≡ refusal needed.Mapping items
    → (IsNamed items name None → end ≡ status.Usage 2 → Comes asked items (Denied end)) → (first ≢ status.OutOfMemory → IsUnnamed items name first) → IsOfText first → Decided asked items r
denied_name r asked items name first end is same refused comes why kind =
    denied_as r end is (subst IsOfText (sym same) kind)
    (λ memory. unnamed asked items name end refused comes (subst (IsUnnamed items name) (sym same) (why (λ e. memory (same ∙ e)))))

-- why a name has no mapping
pub unresolved_name : (items : List ItemTree) (name : List ℕ) (e : MapError) (end : Status) → end ≡ text_status e → Resolves (Err e) needed.Mapping items → end ≢ status.OutOfMemory → IsUnnamed items name end
unresolved_name items name (answer.Refused r) end is why memory = Broken r why is
unresolved_name items name (answer.Memory m) end is why memory = absurd (memory is)

-- ---- words and text

pub loaded_as : (loader : LoaderState) (name text now : List ℕ) → now ≡ text → length text ≤ max_text + 1 → ((all : Files) → loader.files ≡ Some all → HasFront all name (max_text + 1) text) → IsLoaded loader name now
loaded_as loader name text now same within front =
    subst (λ (z : List ℕ). IsLoaded loader name z) (sym same) (record { within = within; front = front })

pub granted_in : (words : List (List ℕ)) (loader : LoaderState) (asked : Action) (name text : List ℕ) (r : Result Request Status) → Asks words asked name → IsLoaded loader name text
    → Judged asked text r → IfOk r (λ request. Order words loader (Granted (deed_of request)))
granted_in words loader asked name text (Ok request) asks loaded judged = OfText asked name text asks loaded judged.granted
granted_in words loader asked name text (Err end) asks loaded judged = tt

pub denied_in : (words : List (List ℕ)) (loader : LoaderState) (asked : Action) (name text : List ℕ) (r : Result Request Status) (end : Status) → r ≡ Err end → Asks words asked name → IsLoaded loader name text
    → Judged asked text r → end ≢ status.OutOfMemory → Order words loader (Denied end)
denied_in words loader asked name text (Ok request) end is asks loaded judged memory = absurd cc
denied_in words loader asked name text (Err other) end is asks loaded judged memory =
    let same : other ≡ end = cc in
    OfText asked name text asks loaded (subst (λ (z : Status). Judges asked text (Denied z)) same (judged.denied (λ e. memory (sym same ∙ e))))
