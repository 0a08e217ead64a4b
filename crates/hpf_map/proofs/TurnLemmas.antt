-- The extents of each stage of a text without a breach agree with those of the stage before.
use Rattle.std.proofs.Common.{◌≡◌, ℕ, zero, suc, ◌+◌, ◌-◌, ◌<◌, ◌==◌, Bool, true, false, cond, not, ◌&&◌, List, [], ◌∷◌, ◌++◌, drop, length, map, get_or, All, Option, Some, None, ℤ, pos, ◌≤ℤ◌, refl, sym, ap, subst, ◌∙◌, arith}
use Rattle.std.specs.Prelude.{option_map, option_to_list, slice_get, unsigned_abs, IfSome}
use Rattle.std.specs.List.{AllZip, flat_map, range_with_len}
use Rattle.std.proofs.lemmas.Bool.{false≢true, eqb-true}
use Rattle.std.proofs.lemmas.Int.{ints}
use Rattle.std.proofs.lemmas.List.{length-map}
use Rattle.std.proofs.lemmas.List.Elements.{All-nil, All-cons, All-head, All-tail}
use Rattle.std.proofs.lemmas.List.FromFn.{get_or-range_with_len, length-range_with_len}
use Rattle.hpf_num.specs.Run as run
use Rattle.hpf_own.specs.Correspondence.{bounds_at, source, ExtentsAgree}
use Rattle.hpf_own.specs.Mapping.{PlainMapping}
use Rattle.hpf_syntax.specs.declared.tree.Spot.{Spot}
use Rattle.hpf_syntax.specs.Plain.{ItemTree, ImplicitNone, Variables, Constants, Processors, Template, Distribute, Align, Shadow, Input, Stage as StageLine}
use Rattle.hpf_map.specs.declared.constraint.Constraint.TheVariants.{Pipeline}
use Rattle.hpf_map.specs.declared.lines.Entries.{Entries}
use Rattle.hpf_map.specs.declared.lines.Line.{Line}
use Rattle.hpf_map.specs.declared.name.Name.{Name}
use Rattle.hpf_map.specs.declared.name.Span.{Span}
use Rattle.hpf_map.specs.declared.program.Need.{Need}
use Rattle.hpf_map.specs.declared.program.Stage.{Stage}
use Rattle.hpf_map.specs.declared.role.Role.TheVariants.{Array}
use Rattle.hpf_map.specs.declared.stages.Behind.{Behind}
use Rattle.hpf_map.specs.Alignments.{no_span, Ordered}
use Rattle.hpf_map.specs.Constraint.{breach, breaches_at}
use Rattle.hpf_map.specs.Declarations.{threaded, names_after}
use Rattle.hpf_map.specs.Fit.{IsFree}
use Rattle.hpf_map.specs.Layers.{names_of}
use Rattle.hpf_map.specs.Lines.{statement_line, all_lines}
use Rattle.hpf_map.specs.Mappings.{IsMappedLine, IsStageOf}
use Rattle.hpf_map.specs.Ownership.{IsMappingOf, shape_at}
use Rattle.hpf_map.specs.Pipeline.{inputs, pipeline_breaches}
use Rattle.hpf_map.specs.Program.{ultimate, Maps, MapsBy, HasDims, AgreeInTurn}
use Rattle.hpf_map.specs.Refusal.{all_breaches}
use Rattle.hpf_map.specs.Shapes.{extent}
use Rattle.hpf_map.specs.Sound.{AreGood}
use Rattle.hpf_map.specs.Spaces.{run_of, shape_of}
use Rattle.hpf_map.specs.Stages.{after_line, nothing_behind, are_extents, are_same_extents, agree_by, agree_where_free, agrees, permute_breaches, follower_breaches, line_breaches, stages_breaches}
use Rattle.hpf_map.proofs.EmptyLemmas.{first_empty, others_empty, breach_if_none}
use Rattle.hpf_map.proofs.FreeLemmas.{names_free}
use Rattle.hpf_map.proofs.MappedLemmas.{run_extent}
use Rattle.hpf_map.proofs.ResolveLemmas.{lines_mapped, line_arrays}
use Rattle.hpf_map.proofs.SoundLemmas.{first_true, second_true, shape_good, names_of_sound}
use Rattle.hpf_map.proofs.StageLemmas.{own_shape, not_false, all_seen}
use Rattle.hpf_map.proofs.UnbrokenLemmas.{all_none, used_is, same_shape}

-- ---- extents that agree

bound_of : (spans : List Span) (d : ℕ) → bounds_at (map run_of spans) d ≡ run_of (get_or spans d no_span)
bound_of [] d = refl
bound_of (s ∷ spans) zero = refl
bound_of (s ∷ spans) (suc d) = bound_of spans d

ordered_at : (spans : List Span) (d : ℕ) → Ordered spans → (get_or spans d no_span).low ≤ℤ (get_or spans d no_span).high
ordered_at [] d h = omega (arith, ints)
ordered_at (s ∷ spans) zero h = All-head (λ t. t.low ≤ℤ t.high) s spans h
ordered_at (s ∷ spans) (suc d) h = ordered_at spans d (All-tail (λ t. t.low ≤ℤ t.high) s spans h)

extent_at : (spans : List Span) (d : ℕ) → Ordered spans → run.extent (bounds_at (map run_of spans) d) ≡ extent (get_or spans d no_span)
extent_at spans d h = ap run.extent (bound_of spans d) ∙ run_extent (get_or spans d no_span) (ordered_at spans d h)

-- each dimension has the extent of the one that its entry names
record AreExtents (before own : List Span) (perm : List ℕ) : Type 0 where
  size : length own ≡ length perm
  each : (d : ℕ) → d < length perm → extent (get_or own d no_span) ≡ extent (get_or before (source perm d) no_span)

by_values : (before own : List Span) (values : List ℤ) → are_extents before own values ≡ true → AreExtents before own (map unsigned_abs values)
unfolding are_extents
by_values before [] [] e = record { size = refl; each = λ d below. absurd (omega arith) }
by_values before [] (v ∷ values) e = absurd (let no : suc (length values) ≡ 0 = eqb-true (suc (length values)) 0 e in omega (arith, no))
by_values before (s ∷ own) [] e = absurd (false≢true e)
by_values before (s ∷ own) (v ∷ values) e =
    let rest = by_values before own values (second_true _ _ e) in
    record { size = ap suc rest.size; each = by rest }
  where
    by : AreExtents before own (map unsigned_abs values) → (d : ℕ) → d < length (map unsigned_abs (v ∷ values))
        → extent (get_or (s ∷ own) d no_span) ≡ extent (get_or before (source (map unsigned_abs (v ∷ values)) d) no_span)
    by rest zero below = eqb-true _ _ (first_true _ _ e)
    by rest (suc d) below = rest.each d (omega arith)

-- each dimension has the extent of the one at its own place
record AreAlike (before own : List Span) : Type 0 where
  size : length before ≡ length own
  each : (d : ℕ) → d < length own → extent (get_or own d no_span) ≡ extent (get_or before d no_span)

by_places : (before own : List Span) → are_same_extents before own ≡ true → AreAlike before own
unfolding are_same_extents
by_places [] [] e = record { size = refl; each = λ d below. absurd (omega arith) }
by_places (b ∷ before) [] e = absurd (let no : suc (length before) ≡ 0 = eqb-true (suc (length before)) 0 e in omega (arith, no))
by_places [] (s ∷ own) e = absurd (false≢true e)
by_places (b ∷ before) (s ∷ own) e =
    let rest = by_places before own (second_true _ _ e) in
    record { size = ap suc rest.size; each = by rest }
  where
    by : AreAlike before own → (d : ℕ) → d < length (s ∷ own) → extent (get_or (s ∷ own) d no_span) ≡ extent (get_or (b ∷ before) d no_span)
    by rest zero below = eqb-true _ _ (first_true _ _ e)
    by rest (suc d) below = rest.each d (omega arith)

in_order : (before own : List Span) → AreAlike before own → AreExtents before own (range_with_len 1 (length own))
in_order before own alike =
    let long = length-range_with_len 1 (length own) in
    record { size = sym long; each = λ d below. at d (omega (arith, below, long)) }
  where
    at : (d : ℕ) → d < length own → extent (get_or own d no_span) ≡ extent (get_or before (source (range_with_len 1 (length own)) d) no_span)
    at d below =
        let stands = get_or-range_with_len 1 (length own) d 0 below in
        let same : d ≡ source (range_with_len 1 (length own)) d = omega (arith, stands) in
        alike.each d below ∙ ap (λ e. extent (get_or before e no_span)) same

extents_agree : (before own : List Span) (perm : List ℕ) → Ordered before → Ordered own → length before ≡ length own → AreExtents before own perm
    → ExtentsAgree (map run_of before) (map run_of own) perm
extents_agree before own perm sound_before sound_own long are = record {
  before = length-map before run_of ∙ long ∙ are.size;
  receiving = length-map own run_of ∙ are.size;
  extents = λ d below. extent_at own d sound_own ∙ are.each d below ∙ sym (extent_at before (source perm d) sound_before);
}

-- the shapes of two lines that agree, by the dimensions of the latter
agreeing : (before own : List Span) (permute : Option Entries) (perm : List ℕ) → Ordered before → Ordered own → agrees (Some before) own permute ≡ true
    → HasDims permute (length (map run_of own)) perm → ExtentsAgree (map run_of before) (map run_of own) perm
agreeing before own None perm sound_before sound_own e dims =
    let alike = by_places before own e in
    let order : range_with_len 1 (length own) ≡ perm = ap (range_with_len 1) (sym (length-map own run_of)) ∙ sym dims in
    extents_agree before own perm sound_before sound_own alike.size (subst (AreExtents before own) order (in_order before own alike))
agreeing before own (Some entries) perm sound_before sound_own e dims =
    let tested : agree_by (Some before) own dims.0 ≡ true = subst (λ o. agree_where_free (Some before) own o ≡ true) dims.1 e in
    let agree = second_true _ _ tested in
    extents_agree before own perm sound_before sound_own (eqb-true _ _ (first_true _ _ agree))
    (subst (AreExtents before own) (sym dims.2) (by_values before own dims.0 (second_true _ _ agree)))

-- ---- only the first line is an INPUT line

abbrev firsts_of : Line → List Spot
firsts_of line = cond line.follows [] (line.array ∷ [])

abbrev firsts : List Line → List Spot
firsts said = flat_map firsts_of said

said_firsts : (items : List ItemTree) (names : List Name) → firsts (threaded names_after (λ before item. option_to_list (statement_line before item)) names items) ≡ inputs items
said_firsts [] names = refl
said_firsts (Input at name buffers op ∷ items) names = ap (λ l. name ∷ l) (said_firsts items (names_after names (Input at name buffers op)))
said_firsts (StageLine at name permute buffers op ∷ items) names = said_firsts items (names_after names (StageLine at name permute buffers op))
said_firsts (ImplicitNone at ∷ items) names = said_firsts items (names_after names (ImplicitNone at))
said_firsts (Variables common list ∷ items) names = said_firsts items (names_after names (Variables common list))
said_firsts (Constants common list ∷ items) names = said_firsts items (names_after names (Constants common list))
said_firsts (Processors list ∷ items) names = said_firsts items (names_after names (Processors list))
said_firsts (Template list ∷ items) names = said_firsts items (names_after names (Template list))
said_firsts (Distribute list formats onto ∷ items) names = said_firsts items (names_after names (Distribute list formats onto))
said_firsts (Align list sources base subs ∷ items) names = said_firsts items (names_after names (Align list sources base subs))
said_firsts (Shadow list widths ∷ items) names = said_firsts items (names_after names (Shadow list widths))

line_firsts : (items : List ItemTree) → firsts (all_lines items) ≡ inputs items
unfolding all_lines
line_firsts items = said_firsts items []

no_spots : (spots : List Spot) → breaches_at Pipeline spots ≡ [] → spots ≡ []
no_spots [] h = refl
no_spots (spot ∷ spots) h = absurd cc

one_input : (need : Need) (names : List Name) (items : List ItemTree) → pipeline_breaches need names items ≡ [] → drop 1 (inputs items) ≡ []
unfolding pipeline_breaches
one_input need names items none = no_spots _ (others_empty _ _ (first_empty _ _ (first_empty _ _ none)))

abbrev Follows : Line → Type 0
Follows line = line.follows ≡ true

none_first : (said : List Line) → firsts said ≡ [] → All Follows said
none_first [] h = All-nil Follows
none_first (l ∷ said) h = All-cons Follows l said (by l.follows refl (first_empty _ _ h)) (none_first said (others_empty _ _ h)) where
  by : (b : Bool) → l.follows ≡ b → cond b [] (l.array ∷ []) ≡ [] → l.follows ≡ true
  by true e h = e
  by false e h = absurd cc

-- ---- stages

module _ (items : List ItemTree) (free : All IsFree (names_of items)) where
  abbrev names : List Name
  names = names_of items

  -- the bounds of a stage are those of its array
  stage_bounds : (line : Line) (stage : Stage) (spans : List Span) → IsStageOf items line stage → IsMappedLine items line.array
      → shape_of names Array line.array.word ≡ Some spans → stage.mapping.bounds ≡ map run_of spans
  stage_bounds line stage spans is mapped shape =
      let maps : MapsBy items mapped.place (Some mapped.statement) (Some stage.mapping) =
      subst (λ s. MapsBy items mapped.place s (Some stage.mapping)) mapped.distributed
      (subst (λ o. Maps items o (Some stage.mapping)) mapped.array is.mapping) in
      let used = used_is names Array line.array.word mapped.place mapped.array in
      let at : shape_at names items mapped.place ≡ Some spans = sym (same_shape names Array line.array.word mapped.place used) ∙ shape in
      let both : Some (map run_of spans) ≡ Some stage.mapping.bounds = sym (ap (option_map (map run_of)) at) ∙ maps.bounds in
      cc

  shape_ordered : (spot : Spot) (spans : List Span) → shape_of names Array spot.word ≡ Some spans → Ordered spans
  shape_ordered spot spans shape =
      let good : AreGood spans = subst (λ o. IfSome o AreGood) shape (shape_good names Array spot.word (names_of_sound items)) in
      good.ordered

  -- a stage agrees with that of the line before
  follower_agrees : (behind : Behind) (former line : Line) (before stage : Stage) → Follows line → line_breaches names (after_line behind former) line ≡ []
      → IsMappedLine items former.array → IsMappedLine items line.array → IsStageOf items former before → IsStageOf items line stage
      → ExtentsAgree before.mapping.bounds stage.mapping.bounds stage.perm
  unfolding line_breaches
  follower_agrees behind former line before stage follows none mapped_before mapped is_before is =
      let a = own_shape items free former.array mapped_before in
      let b = own_shape items free line.array mapped in
      let tested : follower_breaches names (after_line behind former) line ≡ [] =
      subst (λ f. cond f (follower_breaches names (after_line behind former) line) [] ≡ []) follows (first_empty _ _ none) in
      let of_shapes : permute_breaches (Some a.0) (Some b.0) line ≡ [] =
      subst (λ o. permute_breaches o (Some b.0) line ≡ []) a.1
      (subst (λ o. permute_breaches (shape_of names Array former.array.word) o line ≡ []) b.1 (others_empty _ _ tested)) in
      let agree = not_false _ (breach_if_none (not (agrees (Some a.0) b.0 line.permute)) Pipeline line.array.at (others_empty _ _ of_shapes)) in
      let bounds_before = stage_bounds former before a.0 is_before mapped_before a.1 in
      let bounds = stage_bounds line stage b.0 is mapped b.1 in
      let dims = subst (λ bs. HasDims line.permute (length bs) stage.perm) bounds is.said.dims in
      subst (λ bs. ExtentsAgree bs stage.mapping.bounds stage.perm) (sym bounds_before)
      (subst (λ bs. ExtentsAgree (map run_of a.0) bs stage.perm) (sym bounds)
      (agreeing a.0 b.0 line.permute stage.perm (shape_ordered former.array a.0 a.1) (shape_ordered line.array b.0 b.1) agree dims))

  abbrev IsMapped : Line → Type 0
  IsMapped line = IsMappedLine items line.array

  turns : (behind : Behind) (former : Line) (first : Stage) (said : List Line) (stages : List Stage) → All Follows said
      → threaded after_line (line_breaches names) (after_line behind former) said ≡ [] → IsMapped former → All IsMapped said
      → IsStageOf items former first → AllZip (IsStageOf items) said stages
      → (s : ℕ) (before stage : Stage) → slice_get (first ∷ stages) s ≡ Some before → slice_get stages s ≡ Some stage
      → ExtentsAgree before.mapping.bounds stage.mapping.bounds stage.perm
  turns behind former first [] [] follow none mapped all is zip s before stage at_before at = absurd cc
  turns behind former first [] (c ∷ stages) follow none mapped all is zip s before stage at_before at = absurd zip
  turns behind former first (l ∷ said) [] follow none mapped all is zip s before stage at_before at = absurd zip
  turns behind former first (l ∷ said) (c ∷ stages) follow none mapped all is zip zero before stage at_before at =
      let same_before : first ≡ before = cc in
      let same : c ≡ stage = cc in
      subst (λ t. ExtentsAgree before.mapping.bounds t.mapping.bounds t.perm) same
      (subst (λ t. ExtentsAgree t.mapping.bounds c.mapping.bounds c.perm) same_before
      (follower_agrees behind former l first c (All-head Follows l said follow) (first_empty _ _ none) mapped (All-head IsMapped l said all) is zip.0))
  turns behind former first (l ∷ said) (c ∷ stages) follow none mapped all is zip (suc s) before stage at_before at =
      turns (after_line behind former) l c said stages (All-tail Follows l said follow) (others_empty _ _ none) (All-head IsMapped l said all)
      (All-tail IsMapped l said all) zip.0 zip.1 s before stage at_before at

  -- the first line is an INPUT line
  leads : (line : Line) → line_breaches names nothing_behind line ≡ [] → line.follows ≡ false
  unfolding line_breaches
  leads line none = by line.follows refl (first_empty _ _ none) where
    by : (b : Bool) → line.follows ≡ b → cond b (follower_breaches names nothing_behind line) [] ≡ [] → line.follows ≡ false
    by true e h = absurd cc
    by false e h = e

  all_turns : (said : List Line) (stages : List Stage) → drop 1 (firsts said) ≡ [] → threaded after_line (line_breaches names) nothing_behind said ≡ []
      → All IsMapped said → AllZip (IsStageOf items) said stages → AgreeInTurn stages
  all_turns [] [] one none all zip s before stage at_before at = absurd cc
  all_turns [] (c ∷ stages) one none all zip s before stage at_before at = absurd zip
  all_turns (l ∷ said) [] one none all zip s before stage at_before at = absurd zip
  all_turns (l ∷ said) (c ∷ stages) one none all zip s before stage at_before at =
      let lead = leads l (first_empty _ _ none) in
      let rest : firsts said ≡ [] = subst (λ b. drop 1 (cond b [] (l.array ∷ []) ++ firsts said) ≡ []) lead one in
      let next : s + 1 ≡ suc s = omega arith in
      turns nothing_behind l c said stages (none_first said rest) (others_empty _ _ none) (All-head IsMapped l said all) (All-tail IsMapped l said all)
      zip.0 zip.1 s before stage at_before (subst (λ n. slice_get (c ∷ stages) n ≡ Some stage) next at)

pub in_turn : (need : Need) (items : List ItemTree) (stages : List Stage) → all_breaches need items ≡ [] → AllZip (IsStageOf items) (all_lines items) stages → AgreeInTurn stages
unfolding stages_breaches
in_turn need items stages nothing zip =
    let none = all_none need items nothing in
    let one : drop 1 (firsts (all_lines items)) ≡ [] = ap (drop 1) (line_firsts items) ∙ one_input need (names_of items) items none.pipeline in
    all_turns items (names_free items none.layers) (all_lines items) stages one none.stages
    (all_seen (IsMappedLine items) (λ l. l.array) (all_lines items) (subst (All (IsMappedLine items)) (sym (line_arrays items)) (lines_mapped need items nothing))) zip
