-- The program of a text without a breach.
use Rattle.std.proofs.Common.{◌≡◌, ℕ, zero, suc, ◌+◌, ◌-◌, ◌<◌, ◌≤◌, Bool, true, false, cond, List, [], ◌∷◌, ◌++◌, length, map, get_or, take, All, Option, Some, None, inl, inr, refl, sym, ap, subst, ◌∙◌, arith}
use Rattle.std.specs.Prelude.{slice_get, slice_set, option_and_then, option_to_list, is_some, replicate, fold, drop, Result, Ok, Err, IfOk}
use Rattle.std.specs.Fn.{iterate}
use Rattle.std.specs.List.{AllZip}
use Rattle.std.proofs.lemmas.Bool.{false≢true, cases_lt}
use Rattle.std.proofs.lemmas.List.{length-set, length-replicate, length-drop, length-append, take_more}
use Rattle.std.proofs.lemmas.List.Elements.{All-nil, All-cons, Contains-get_or}
use Rattle.hpf_own.specs.declared.image.Image.{Image}
use Rattle.hpf_own.specs.Mapping.{PlainMapping}
use Rattle.hpf_syntax.specs.declared.tree.Spot.{Spot}
use Rattle.hpf_syntax.specs.Plain.{ItemTree, ImplicitNone, Variables, Constants, Processors, Template, Distribute, Align, Shadow, Input, Stage as StageLine}
use Rattle.hpf_map.specs.declared.landings.Landing.{Landing}
use Rattle.hpf_map.specs.declared.lines.Line.{Line}
use Rattle.hpf_map.specs.declared.name.Meaning.{Meaning}
use Rattle.hpf_map.specs.declared.name.Meaning.TheVariants as meaning
use Rattle.hpf_map.specs.declared.name.Name.{Name}
use Rattle.hpf_map.specs.declared.name.Space.TheVariants as space
use Rattle.hpf_map.specs.declared.program.Counts.{Counts}
use Rattle.hpf_map.specs.declared.program.Stage.{Stage}
use Rattle.hpf_map.specs.declared.role.Role.TheVariants.{Array}
use Rattle.hpf_map.specs.declared.program.Need.{Need}
use Rattle.hpf_map.specs.declared.way.Use.{Use}
use Rattle.hpf_map.specs.declared.way.Way.{Way}
use Rattle.hpf_map.specs.declared.way.Way.TheVariants.{Unmapped, Distributed, Aligned}
use Rattle.hpf_lex.specs.declared.refusal.MapRefusal.{MapRefusal}
use Rattle.hpf_map.specs.Declarations.{threaded, names_after}
use Rattle.hpf_map.specs.Found.{least_with}
use Rattle.hpf_map.specs.Known.{is_named, known}
use Rattle.hpf_map.specs.Direct.{direct_images}
use Rattle.hpf_map.specs.Landings.{IsSettled, AreClear, AreLandings, Lands, Here, Onward}
use Rattle.hpf_map.specs.Layers.{names_of}
use Rattle.hpf_map.specs.Lines.{statement_line, all_lines}
use Rattle.hpf_map.specs.Mapped.{CanMap}
use Rattle.hpf_map.specs.Mappings.{array_at, MapsFor, MapsAt, AreMappings, CanMapAll, IsMappedLine, IsStageOf}
use Rattle.hpf_map.specs.Ownership.{IsMappingOf}
use Rattle.hpf_map.specs.Paired.{inner, at_place}
use Rattle.hpf_map.specs.Pipeline.{lines, first_spot_breach, pipeline_breaches}
use Rattle.hpf_map.specs.Program.{distributing, ultimate, statement_for, array_place, MapsBy, Maps, counts_of, HasLine, AgreeInTurn, IsProgram}
use Rattle.hpf_map.specs.Refusal.{all_breaches}
use Rattle.hpf_map.specs.Spaces.{fit, used_as}
use Rattle.hpf_map.specs.Uses.{suits}
use Rattle.hpf_map.specs.Ways.{used_place, place_of, uses_in, ways_after, is_unmapped, ways_of, way_at, leads_on, step_from, step, walk, walk_end}
use Rattle.hpf_map.proofs.IndexLemmas.{IsFirstAt, first_at}
use Rattle.hpf_map.proofs.DirectLemmas.{direct_said}
use Rattle.hpf_map.proofs.DistributedLemmas.{distributed_is}
use Rattle.hpf_map.proofs.EmptyLemmas.{others_empty, least_none}
use Rattle.hpf_map.proofs.FreeLemmas.{names_free}
use Rattle.hpf_map.proofs.LandingLemmas.{walk_stays, lands_are}
use Rattle.hpf_map.proofs.SoundLemmas.{names_of_sound}
use Rattle.hpf_map.proofs.WalkLemmas.{walk-iterate, iterate-add}
use Rattle.hpf_map.proofs.UnbrokenLemmas.{all_none, clear, ends, line_is, IsUsed, used_is, used_placed, placed, fit_is, got, nobody}

-- ---- one array

is_array : (m : Meaning) → suits Array m ≡ true → (d : _) × (m ≡ meaning.Shaped space.Array d)
is_array meaning.Scalar h = absurd (false≢true h)
is_array (meaning.Shaped space.Array d) h = (d, refl)
is_array (meaning.Shaped space.Template d) h = absurd (false≢true h)
is_array (meaning.Shaped space.Arrangement d) h = absurd (false≢true h)
is_array (meaning.Constant v) h = absurd (false≢true h)
is_array (meaning.List vs) h = absurd (false≢true h)

module _ (items : List ItemTree) (landings : List (Option Landing)) (can : CanMapAll items landings) where
  -- an array whose landing is listed can be mapped
  pub can_map : (n : ℕ) (l : Landing) → is_some (array_at (names_of items) n) ≡ true → slice_get landings n ≡ Some (Some l)
      → CanMap (names_of items) items n l.base l.statement l.images
  can_map n l array listed = by (slice_get (names_of items) n) refl where
    by : (o : Option Name) → slice_get (names_of items) n ≡ o → CanMap (names_of items) items n l.base l.statement l.images
    by None e = absurd (false≢true (sym (ap (λ o. is_some (option_and_then (fit Array) o)) e) ∙ array))
    by (Some x) e =
        let fitting : is_some (fit Array x) ≡ true = sym (ap (λ o. is_some (option_and_then (fit Array) o)) e) ∙ array in
        let d = is_array x.meaning (suiting x (fit Array x) refl fitting) in
        record {
          sound = can.sound;
          name = x;
          named = e;
          is_array = record { dimensions = d.0; is = d.1 };
          landing = can.landing n l listed;
          distributed = can.distributed l.base l.statement (can.landing n l listed).distributed;
        }
      where
        suiting : (x : Name) (o : Option Name) → fit Array x ≡ o → is_some o ≡ true → suits Array x.meaning ≡ true
        suiting x None e h = absurd (false≢true h)
        suiting x (Some y) e h = (fit_is Array x y e).1

  abbrev pub ways : List Way
  ways = ways_of (names_of items) items

  -- a name that is no free array has no mapping
  pub maps_none : (n : ℕ) → is_some (array_at (names_of items) n) ≡ false → MapsAt items n None
  maps_none n h = by (array_at (names_of items) n) refl where
    by : (o : Option Name) → array_at (names_of items) n ≡ o → MapsFor items n o None
    by None e = refl
    by (Some x) e = absurd (false≢true (sym h ∙ ap is_some e))

  -- an array whose landing isn't listed has none either
  unlisted : (n : ℕ) (w : Way) → way_at ways (ultimate items n) ≡ w → n < length (names_of items) → inner (slice_get landings n) ≡ None → MapsBy items n (distributing w) None
  unlisted n Unmapped is below none = refl
  unlisted n (Aligned k b) is below none = refl
  unlisted n (Distributed k) is below none =
      let l = can.settled n k below is in
      absurd (let no : Some l.0 ≡ None = sym (ap inner l.1) ∙ none in cc)

  pub maps_unlisted : (n : ℕ) → n < length (names_of items) → inner (slice_get landings n) ≡ None → MapsAt items n None
  maps_unlisted n below none = by (array_at (names_of items) n) where
    by : (o : Option Name) → MapsFor items n o None
    by None = refl
    by (Some x) = unlisted n (way_at ways (ultimate items n)) refl below none

  -- one whose landing is listed has its mapping
  pub maps_listed : (n : ℕ) (l : Landing) (m : PlainMapping) → is_some (array_at (names_of items) n) ≡ true → slice_get landings n ≡ Some (Some l)
      → IsMappingOf (names_of items) items n l.base l.statement m → MapsAt items n (Some m)
  maps_listed n l m array listed is = by (array_at (names_of items) n) refl where
    base : l.base ≡ ultimate items n
    base = can.base n l listed

    there : statement_for items n ≡ Some l.statement
    there = ap distributing (subst (λ b. way_at ways b ≡ Distributed l.statement) base (can.landing n l listed).distributed)

    by : (o : Option Name) → array_at (names_of items) n ≡ o → MapsFor items n o (Some m)
    by None e = absurd (false≢true (sym (ap is_some e) ∙ array))
    by (Some x) e = subst (λ s. MapsBy items n s (Some m)) (sym there) (subst (λ b. IsMappingOf (names_of items) items n b l.statement m) base is)

-- ---- words

-- a word that is an array stands for one at its place
pub record IsArrayAt (items : List ItemTree) (word : List ℕ) (n : ℕ) : Type 0 where
  pub below : n < length (names_of items)
  pub name : Name
  pub there : array_at (names_of items) n ≡ Some name

pub array_there : (items : List ItemTree) (word : List ℕ) (n : ℕ) → array_place items word ≡ Some n → IsArrayAt items word n
array_there items word n is =
    let u : IsUsed (names_of items) Array word n = used_is (names_of items) Array word n is in
    record { below = u.below; name = u.name; there = ap (option_and_then (fit Array)) u.there ∙ u.fitting }

-- what stands at its place is its mapping
pub maps_word : (items : List ItemTree) (word : List ℕ) (n : ℕ) (m : Option PlainMapping) → array_place items word ≡ Some n → MapsAt items n m → Maps items (array_place items word) m
maps_word items word n m is maps =
    let a = array_there items word n is in
    let by : MapsBy items n (statement_for items n) m = subst (λ o. MapsFor items n o m) a.there maps in
    subst (λ o. Maps items o m) (sym is) by

-- the array of a line has a mapping
pub line_mapped : (items : List ItemTree) (line : Spot) (n : ℕ) → IsMappedLine items line → array_place items line.word ≡ Some n → MapsAt items n None → ⊥
line_mapped items line n is place maps =
    let same : Some is.place ≡ Some n = sym is.array ∙ place in
    let at : is.place ≡ n = cc in
    let a = array_there items line.word n place in
    let by : MapsBy items n (statement_for items n) None = subst (λ o. MapsFor items n o None) a.there maps in
    subst (λ s. MapsBy items n s None) (subst (λ p. statement_for items p ≡ Some is.statement) at is.distributed) by

pub no_line : (items : List ItemTree) (line : Spot) → IsMappedLine items line → array_place items line.word ≡ None → ⊥
no_line items line is none = let no : Some is.place ≡ None = sym is.array ∙ none in absurd cc

-- ---- the program

module _ (items : List ItemTree) (mappings : List (Option PlainMapping)) (are : AreMappings items mappings) where
  -- a name that is no array of the text, with its mapping
  unused : (word : List ℕ) (n : ℕ) → used_as (names_of items) Array word ≡ None → place_of (names_of items) word ≡ Some n → at_place n mappings ≡ None
  unfolding known
  unused word n none place =
      let f : IsFirstAt (is_named word) 0 (names_of items) n = first_at (is_named word) 0 (names_of items) n place in
      let z : n - 0 ≡ n = omega arith in
      let below : n < length (names_of items) = omega (arith, f.below) in
      let x = get_or (names_of items) n nobody in
      let found : known (names_of items) word ≡ Some x = f.first nobody ∙ ap (λ m. Some (get_or (names_of items) m nobody)) z in
      let at : array_at (names_of items) n ≡ None = ap (option_and_then (fit Array)) (got (names_of items) n nobody below) ∙ sym (ap (option_and_then (fit Array)) found) ∙ none in
      subst (λ o. MapsFor items n o (at_place n mappings)) at (are.each n (let size = are.size in omega (arith, below, size)))

  pub word_maps : (word : List ℕ) → Maps items (array_place items word) (option_and_then (λ n. at_place n mappings) (place_of (names_of items) word))
  unfolding used_place
  word_maps word = by (used_as (names_of items) Array word) refl where
    names : List Name
    names = names_of items

    by : (o : Option Name) → used_as names Array word ≡ o → Maps items (cond (is_some (used_as names Array word)) (place_of names word) None) (option_and_then (λ n. at_place n mappings) (place_of names word))
    by None e = rw e (at (place_of names word) refl) where
      at : (p : Option ℕ) → place_of names word ≡ p → option_and_then (λ n. at_place n mappings) p ≡ None
      at None is = refl
      at (Some n) is = unused word n e is
    by (Some y) e =
        let p = used_placed names Array word y e in
        let is : array_place items word ≡ Some p.0 = placed (names_of items) Array word p.0 y e p.1 in
        let a = array_there items word p.0 is in
        let maps = are.each p.0 (let size = are.size in let below = a.below in omega (arith, below, size)) in
        subst (λ o. Maps items (array_place items word) (option_and_then (λ n. at_place n mappings) o)) (sym p.1) (maps_word items word p.0 (at_place p.0 mappings) is maps)

-- the arrays of the lines, as the statements have them and as they are read
said_arrays : (items : List ItemTree) (names : List Name) → map (λ line. line.array) (threaded names_after (λ before item. option_to_list (statement_line before item)) names items) ≡ lines items
said_arrays [] names = refl
said_arrays (Input at name buffers op ∷ items) names = ap (λ l. name ∷ l) (said_arrays items (names_after names (Input at name buffers op)))
said_arrays (StageLine at name permute buffers op ∷ items) names = ap (λ l. name ∷ l) (said_arrays items (names_after names (StageLine at name permute buffers op)))
said_arrays (ImplicitNone at ∷ items) names = said_arrays items (names_after names (ImplicitNone at))
said_arrays (Variables common list ∷ items) names = said_arrays items (names_after names (Variables common list))
said_arrays (Constants common list ∷ items) names = said_arrays items (names_after names (Constants common list))
said_arrays (Processors list ∷ items) names = said_arrays items (names_after names (Processors list))
said_arrays (Template list ∷ items) names = said_arrays items (names_after names (Template list))
said_arrays (Distribute list formats onto ∷ items) names = said_arrays items (names_after names (Distribute list formats onto))
said_arrays (Align list sources base subs ∷ items) names = said_arrays items (names_after names (Align list sources base subs))
said_arrays (Shadow list widths ∷ items) names = said_arrays items (names_after names (Shadow list widths))

pub line_arrays : (items : List ItemTree) → map (λ line. line.array) (all_lines items) ≡ lines items
unfolding all_lines
line_arrays items = said_arrays items []

stage_arrays : (items : List ItemTree) (said : List Line) (stages : List Stage) → AllZip (IsStageOf items) said stages → map (λ stage. stage.array) stages ≡ map (λ spot. spot.word) (map (λ line. line.array) said)
stage_arrays items [] [] h = refl
stage_arrays items [] (s ∷ stages) h = absurd h
stage_arrays items (x ∷ said) [] h = absurd h
stage_arrays items (x ∷ said) (s ∷ stages) h = rw (h.0.array, stage_arrays items said stages h.1) refl

stage_lines : (items : List ItemTree) (said : List Line) (stages : List Stage) → AllZip (IsStageOf items) said stages → AllZip HasLine said stages
stage_lines items [] [] h = tt
stage_lines items [] (s ∷ stages) h = absurd h
stage_lines items (x ∷ said) [] h = absurd h
stage_lines items (x ∷ said) (s ∷ stages) h = (h.0.said, stage_lines items said stages h.1)

stage_maps : (items : List ItemTree) (spots : List Line) (stages : List Stage) → AllZip (IsStageOf items) spots stages → All (λ stage. Maps items (array_place items stage.array) (Some stage.mapping)) stages
stage_maps items [] [] h = All-nil (λ stage. Maps items (array_place items stage.array) (Some stage.mapping))
stage_maps items [] (s ∷ stages) h = absurd h
stage_maps items (x ∷ spots) [] h = absurd h
stage_maps items (x ∷ spots) (s ∷ stages) h =
    All-cons (λ stage. Maps items (array_place items stage.array) (Some stage.mapping)) s stages
    (subst (λ w. Maps items (array_place items w) (Some s.mapping)) (sym h.0.array) h.0.mapping) (stage_maps items spots stages h.1)

pub program_is : (items : List ItemTree) (names : List Name) (mappings : List (Option PlainMapping)) (stages : List Stage) (counts : Counts) → names ≡ names_of items
    → AreMappings items mappings → AllZip (IsStageOf items) (all_lines items) stages → counts ≡ counts_of items → AgreeInTurn stages
    → IsProgram items (record { names = names; mappings = mappings; stages = stages; counts = counts })
program_is items names mappings stages counts are_names are zip count agree = record {
  counts = count;
  mappings = λ word. subst (λ ns. Maps items (array_place items word) (option_and_then (λ n. at_place n mappings) (place_of ns word))) (sym are_names) (word_maps items mappings are word);
  arrays = stage_arrays items (all_lines items) stages zip ∙ ap (map (λ spot. spot.word)) (line_arrays items);
  stages = stage_maps items (all_lines items) stages zip;
  lines = stage_lines items (all_lines items) stages zip;
  agree = agree;
}

-- ---- landings of a text without a breach

length_after : (before : List Way) (uses : List Use) → length (fold ways_after before uses) ≡ length before
unfolding ways_after
length_after before [] = refl
length_after before (u ∷ uses) = length_after (ways_after before u) uses ∙ kept (is_unmapped (way_at before u.name)) where
  kept : (b : Bool) → length (cond b (slice_set before u.name u.way) before) ≡ length before
  kept true = length-set before u.name u.way
  kept false = refl

pub ways_long : (names : List Name) (items : List ItemTree) → length (ways_of names items) ≡ length names
unfolding ways_of
ways_long names items = length_after (replicate (length names) Unmapped) (uses_in names items) ∙ length-replicate (length names) Unmapped

-- a walk that has stopped is as far from the base
one_more : (ways : List Way) (steps n b : ℕ) → step ways n ≡ b → leads_on (way_at ways (walk ways steps n)) ≡ false → walk ways steps n ≡ walk ways steps b
unfolding walk
one_more ways steps n b next stop =
    let more : steps + 1 ≡ suc steps = omega arith in
    sym (walk_stays ways (walk ways steps n) 1 stop)
    ∙ ap (step ways) (walk-iterate ways steps n)
    ∙ sym (iterate-add (step ways) steps 1 n)
    ∙ ap (λ k. iterate (step ways) k n) more
    ∙ ap (iterate (step ways) steps) next
    ∙ sym (walk-iterate ways steps b)

-- a walk ends at the base of a landing
lands_end : (names : List Name) (ways : List Way) (direct : List (Option (List Image))) → ((n : ℕ) → leads_on (way_at ways (walk_end ways n)) ≡ false)
    → (n base statement : ℕ) (images : List Image) → Lands names ways direct n base statement images → walk_end ways n ≡ base
lands_end names ways direct ends n base statement images (Here n' k shape images' has way are) = walk_stays ways n (length ways) (ap leads_on way)
lands_end names ways direct ends n base statement images (Onward n' k b base' statement' shape listed first second has way lists plain lands) =
    let stop : leads_on (way_at ways (walk ways (length ways) n)) ≡ false = ends n in
    one_more ways (length ways) n b (ap (step_from n) way) stop ∙ lands_end names ways direct ends b base statement second lands

pub can_map_all : (need : Need) (items : List ItemTree) (landings : List (Option Landing)) → all_breaches need items ≡ []
    → AreLandings (names_of items) (ways_of (names_of items) items) (direct_images (names_of items) items (ways_of (names_of items) items)) landings
    → ((n k : ℕ) → n < length (names_of items) → way_at (ways_of (names_of items) items) (walk_end (ways_of (names_of items) items) n) ≡ Distributed k → IsSettled landings n)
    → CanMapAll items landings
can_map_all need items landings nothing lands settled =
    let none = all_none need items nothing in
    let free = names_free items none.layers in
    let is_clear = clear need items none free in
    record {
      sound = names_of_sound items;
      landing = λ n l is. lands_are (names_of items) items (direct_images (names_of items) items (ways_of (names_of items) items)) is_clear (direct_said (names_of items) items) n l.base l.statement l.images (lands n l is);
      base = λ n l is. sym (lands_end (names_of items) (ways_of (names_of items) items) (direct_images (names_of items) items (ways_of (names_of items) items)) (ends need items none free) n l.base l.statement l.images (lands n l is));
      settled = settled;
      distributed = distributed_is need items none free;
    }

-- the same by what the code has found
pub can_map_by : (need : Need) (items : List ItemTree) (found : List Name) (went : List Way) (direct : List (Option (List Image))) (landings : List (Option Landing))
    → found ≡ names_of items → went ≡ ways_of (names_of items) items → direct ≡ direct_images found items went → all_breaches need items ≡ []
    → AreLandings found went direct landings → ((n k : ℕ) → n < length found → way_at went (walk_end went n) ≡ Distributed k → IsSettled landings n) → CanMapAll items landings
can_map_by need items found went direct landings names_are ways_are direct_are nothing lands settled =
    let all = names_of items in
    let w = ways_of all items in
    let d : direct ≡ direct_images all items w = direct_are ∙ ap (λ x. direct_images x items went) names_are ∙ ap (direct_images all items) ways_are in
    can_map_all need items landings nothing
    (subst (λ x. AreLandings all w x landings) d (subst (λ x. AreLandings all x direct landings) ways_are (subst (λ x. AreLandings x went direct landings) names_are lands)))
    (subst (λ x. (n k : ℕ) → n < length all → way_at x (walk_end x n) ≡ Distributed k → IsSettled landings n) ways_are
    (subst (λ x. (n k : ℕ) → n < length x → way_at went (walk_end went n) ≡ Distributed k → IsSettled landings n) names_are settled))

pub ok_both : {T E : Type 0} (P Q R : T → Type 0) → ((x : T) → P x → Q x → R x) → (r : Result T E) → IfOk r P → IfOk r Q → IfOk r R
ok_both P Q R f (Ok x) h k = f x h k
ok_both P Q R f (Err e) h k = tt

pub clear_of : (need : Need) (items : List ItemTree) → all_breaches need items ≡ [] → AreClear (names_of items) (ways_of (names_of items) items) (direct_images (names_of items) items (ways_of (names_of items) items))
clear_of need items nothing = let none = all_none need items nothing in clear need items none (names_free items none.layers)

pub ends_of : (need : Need) (items : List ItemTree) (n : ℕ) → all_breaches need items ≡ [] → leads_on (way_at (ways_of (names_of items) items) (walk_end (ways_of (names_of items) items) n)) ≡ false
ends_of need items n nothing = let none = all_none need items nothing in ends need items none (names_free items none.layers) n

-- ---- the lines of a text without a breach

pub lines_mapped : (need : Need) (items : List ItemTree) → all_breaches need items ≡ [] → All (IsMappedLine items) (lines items)
lines_mapped need items nothing k d below =
    let none = all_none need items nothing in
    let l = line_is need items none (names_free items none.layers) (get_or (lines items) k d) (Contains-get_or (lines items) k d below) in
    record { place = l.place; statement = l.statement; array = l.used; distributed = ap distributing l.distributed }

few_lines : (spots : List Spot) → first_spot_breach (drop 16 spots) ≡ [] → length spots ≤ 16
few_lines spots h = by (drop 16 spots) refl where
  by : (rest : List Spot) → drop 16 spots ≡ rest → length spots ≤ 16
  by [] e = omega (arith, length-drop 16 spots, ap length e)
  by (s ∷ rest) e = absurd (let no : first_spot_breach (s ∷ rest) ≡ [] = subst (λ r. first_spot_breach r ≡ []) e h in cc)

pub lines_few : (need : Need) (items : List ItemTree) → all_breaches need items ≡ [] → length (lines items) ≤ 16
unfolding pipeline_breaches
lines_few need items nothing = few_lines (lines items) (others_empty _ _ (all_none need items nothing).pipeline)

-- ---- one name after another

push_old : {A : Type 0} (xs : List A) (x : A) (k : ℕ) → k < length xs → slice_get (xs ++ x ∷ []) k ≡ slice_get xs k
push_old [] x k below = absurd (omega arith)
push_old (y ∷ xs) x zero below = refl
push_old (y ∷ xs) x (suc k) below = push_old xs x k (omega arith)

push_new : {A : Type 0} (xs : List A) (x : A) → slice_get (xs ++ x ∷ []) (length xs) ≡ Some x
push_new [] x = refl
push_new (y ∷ xs) x = push_new xs x

-- the mappings of the first names
pub record AreFirst (items : List ItemTree) (n : ℕ) (mappings : List (Option PlainMapping)) : Type 0 where
  pub size : length mappings ≡ n
  pub each : (k : ℕ) → k < n → MapsAt items k (at_place k mappings)

pub AreFirst-none : (items : List ItemTree) (mappings : List (Option PlainMapping)) → mappings ≡ [] → AreFirst items 0 mappings
AreFirst-none items mappings none = record { size = ap length none; each = λ k below. absurd (omega (arith, below)) }

pub AreFirst-more : {items : List ItemTree} {n : ℕ} {before : List (Option PlainMapping)} (m : Option PlainMapping) (after : List (Option PlainMapping))
    → AreFirst items n before → MapsAt items n m → after ≡ before ++ m ∷ [] → AreFirst items (n + 1) after
AreFirst-more {items = items} {n = n} {before = before} m after are maps is = record {
  size = ap length is ∙ length-append before (m ∷ []) ∙ ap (λ k. k + 1) are.size;
  each = λ k below. elim (cases_lt k n) [
    | inl old ↦
        let size = are.size in
        let same : at_place k after ≡ at_place k before = ap (at_place k) is ∙ ap inner (push_old before m k (omega (arith, old, size))) in
        subst (MapsAt items k) (sym same) (are.each k old)
    | inr not_old ↦
        let here : k ≡ n = omega (arith, below, not_old) in
        let same : at_place n after ≡ m = ap (at_place n) is ∙ ap (λ j. at_place j (before ++ m ∷ [])) (sym are.size) ∙ ap inner (push_new before m) in
        subst (λ j. MapsAt items j (at_place j after)) (sym here) (subst (MapsAt items n) (sym same) maps)
  ];
}

pub AreFirst-all : {items : List ItemTree} {n : ℕ} {mappings : List (Option PlainMapping)} → AreFirst items n mappings → n ≡ length (names_of items) → AreMappings items mappings
AreFirst-all {items = items} {mappings = mappings} are all = record {
  size = are.size ∙ all;
  each = λ k below. are.each k (let size = are.size in omega (arith, below, size));
}

-- ---- what the code has found of a name

pub array_below : (items : List ItemTree) (found : List Name) (word : List ℕ) (n : ℕ) → found ≡ names_of items → Some n ≡ used_place found Array word → n < length found
array_below items found word n are is = subst (λ names. n < length names) (sym are) (array_there items word n (sym (is ∙ ap (λ names. used_place names Array word) are))).below

pub array_word : (items : List ItemTree) (found : List Name) (word : List ℕ) (n : ℕ) → found ≡ names_of items → Some n ≡ used_place found Array word → array_place items word ≡ Some n
array_word items found word n are is = sym (is ∙ ap (λ names. used_place names Array word) are)

zip_more : {A B : Type 0} (R : A → B → Type 0) (xs : List A) (ys : List B) (x : A) (y : B) → AllZip R xs ys → R x y → AllZip R (xs ++ x ∷ []) (ys ++ y ∷ [])
zip_more R [] [] x y h r = (r, tt)
zip_more R [] (z ∷ ys) x y h r = absurd h
zip_more R (w ∷ xs) [] x y h r = absurd h
zip_more R (w ∷ xs) (z ∷ ys) x y h r = (h.0, zip_more R xs ys x y h.1 r)

pub stages_more : (items : List ItemTree) (lines : List Line) (stages : List Stage) (i : ℕ) (line : Line) (stage : Stage) → i < length lines → line ≡ get_or lines i line
    → AllZip (IsStageOf items) (take i lines) stages → IsStageOf items line stage → AllZip (IsStageOf items) (take (i + 1) lines) (stages ++ stage ∷ [])
stages_more items lines stages i line stage below is before new =
    subst (λ l. AllZip (IsStageOf items) l (stages ++ stage ∷ [])) (ap (λ z. take i lines ++ z ∷ []) is ∙ sym (take_more lines i line below)) (zip_more (IsStageOf items) (take i lines) stages line stage before new)

pub array_seen : (items : List ItemTree) (found : List Name) (n : ℕ) (seen : Bool) → found ≡ names_of items → seen ≡ is_some (array_at found n) → seen ≡ true
    → is_some (array_at (names_of items) n) ≡ true
array_seen items found n seen are is h = ap (λ names. is_some (array_at names n)) (sym are) ∙ sym is ∙ h

pub zip_long : {A B : Type 0} (R : A → B → Type 0) (xs : List A) (ys : List B) → AllZip R xs ys → length xs ≡ length ys
zip_long R [] [] h = refl
zip_long R [] (y ∷ ys) h = absurd h
zip_long R (x ∷ xs) [] h = absurd h
zip_long R (x ∷ xs) (y ∷ ys) h = ap suc (zip_long R xs ys h.1)

-- breaches of which none was found
pub none_found : (before found : Option MapRefusal) (breaches : List MapRefusal) → before ≡ None → found ≡ least_with before breaches → found ≡ None → breaches ≡ []
unfolding least_with
none_found before found breaches empty is none = least_none breaches (sym (is ∙ ap (λ b. least_with b breaches) empty) ∙ none)
