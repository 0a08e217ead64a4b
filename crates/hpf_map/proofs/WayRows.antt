-- Rows of how names are mapped and of the lines of a pipeline, worked out by hand.
use Rattle.std.proofs.Common.{◌≡◌, ℕ, true, false, List, [], ◌∷◌, Some, None, refl}
use Rattle.hpf_syntax.specs.declared.tree.At.{At}
use Rattle.hpf_syntax.specs.declared.tree.Spot.{Spot}
use Rattle.hpf_syntax.specs.Plain.{ItemTree, Distribute, Align, Input, Plain}
use Rattle.hpf_map.specs.declared.constraint.Constraint.TheVariants as broken
use Rattle.hpf_map.specs.declared.name.Meaning.TheVariants as meaning
use Rattle.hpf_map.specs.declared.name.Name.{Name}
use Rattle.hpf_map.specs.declared.name.Space.{Space}
use Rattle.hpf_map.specs.declared.name.Space.TheVariants.{Array, Template}
use Rattle.hpf_map.specs.declared.program.Need.TheVariants.{Mapping, Pipeline}
use Rattle.hpf_map.specs.declared.way.Way.{Way}
use Rattle.hpf_map.specs.declared.way.Way.TheVariants.{Unmapped, Distributed, Aligned}
use Rattle.hpf_map.specs.Constraint.{breach}
use Rattle.hpf_map.specs.Known.{known}
use Rattle.hpf_map.specs.Places.{in_item}
use Rattle.hpf_map.specs.Pipeline.{pipeline_breaches}
use Rattle.hpf_map.specs.Ways.{used_place, statement_uses, ways_after, ways_of, mapped_twice_breaches, walk, walk_end, is_on_cycle, has_unmapped_base}

abbrev to : ℕ → Way
to base = Aligned 0 (Some base)

-- each of two names is aligned with the other
each_other : is_on_cycle (to 1 ∷ to 0 ∷ []) 1 ≡ true
unfolding is_on_cycle walk
each_other = refl

-- a name is aligned with one that is aligned with itself
itself : is_on_cycle (to 1 ∷ to 1 ∷ []) 1 ≡ true
unfolding is_on_cycle walk
itself = refl

beside_a_cycle : is_on_cycle (to 1 ∷ to 1 ∷ []) 0 ≡ false
unfolding is_on_cycle walk
beside_a_cycle = refl

no_base_of_a_cycle : has_unmapped_base (to 1 ∷ to 0 ∷ []) 0 ≡ false
unfolding walk
no_base_of_a_cycle = refl

-- a chain of two alignments to a name that is distributed, and to one that nothing maps
chain : walk_end (to 1 ∷ to 2 ∷ Distributed 0 ∷ []) 0 ≡ 2
unfolding walk
chain = refl

unmapped_base : has_unmapped_base (to 1 ∷ to 2 ∷ Unmapped ∷ []) 0 ≡ true
unfolding walk
unmapped_base = refl

-- the name of the base has a breach
broken_base : has_unmapped_base (Aligned 0 None ∷ []) 0 ≡ false
unfolding walk
broken_base = refl

-- ---- with statements

abbrev on : ℕ → ℕ → At
on line column = record { line = line; column = column }

abbrev spot : List ℕ → ℕ → ℕ → Spot
spot word line column = record { word = word; at = on line column }

abbrev one : List ℕ → Space → Name
one word space = record { word = word; free = true; meaning = meaning.Shaped space (record { count = 1; shape = None }) }

abbrev A : List ℕ
A = 65 ∷ []

abbrev T : List ℕ
T = 84 ∷ []

-- an array and a template
abbrev names : List Name
names = one A Array ∷ one T Template ∷ []

-- ALIGN A WITH T, then DISTRIBUTE A, then ALIGN T WITH A, where T isn't an array
abbrev items : List ItemTree
items =
    Align (spot A 3 13 ∷ []) None (spot T 3 20) None
    ∷ Distribute (spot A 4 18 ∷ []) [] None
    ∷ Align (spot T 5 13 ∷ []) None (spot A 5 20) None ∷ []

first_way : ways_of names items ≡ to 1 ∷ Unmapped ∷ []
unfolding ways_of ways_after statement_uses used_place known
first_way = refl

mapped_again : mapped_twice_breaches names items ≡ breach broken.MappedTwice (on 4 18) ∷ []
unfolding mapped_twice_breaches ways_after statement_uses used_place known
mapped_again = refl

-- without an INPUT line
no_statement : pipeline_breaches Pipeline [] [] ≡ breach broken.Pipeline (on 1 1) ∷ []
unfolding pipeline_breaches ways_of
no_statement = refl

no_input : pipeline_breaches Pipeline names items ≡ breach broken.Pipeline (on 6 1) ∷ []
unfolding pipeline_breaches ways_of in_item
no_input = refl

no_input_needed : pipeline_breaches Mapping names items ≡ []
unfolding pipeline_breaches ways_of
no_input_needed = refl

-- two INPUT lines of an array whose base nothing maps
two_inputs : pipeline_breaches Mapping names (Align (spot A 3 13 ∷ []) None (spot T 3 20) None ∷ Input (on 7 8) (spot A 7 14) None Plain ∷ Input (on 8 8) (spot A 8 14) None Plain ∷ [])
    ≡ breach broken.Pipeline (on 8 14) ∷ breach broken.Pipeline (on 7 14) ∷ breach broken.Pipeline (on 8 14) ∷ []
unfolding pipeline_breaches ways_of ways_after statement_uses used_place known walk
two_inputs = refl
