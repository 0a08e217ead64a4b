-- Open parentheses.
use Rattle.std.proofs.Common.{◌≡◌, Bool, true, false, not, List, [], ◌∷◌, map, refl, ap}
use Rattle.std.specs.Prelude.{IsTrue, ◌↔◌}
use Rattle.hpf_syntax.specs.declared.expression.Level.{Level}
use Rattle.hpf_syntax.specs.Partial.{inner_of, is_open}

cons_is_not_nil : (o : Level) (os : List Level) → ◌≡◌ {A = List Level} (o ∷ os) [] → ⊥
cons_is_not_nil o os e = cc

pub open_from_empty : (outer : List Level) (empty : Bool) → IsTrue empty ↔ (outer ≡ []) → not empty ≡ is_open (map inner_of outer)
open_from_empty [] empty h = ap not (h.1 refl)
open_from_empty (o ∷ os) true h = absurd (cons_is_not_nil o os (h.0 refl))
open_from_empty (o ∷ os) false h = refl
