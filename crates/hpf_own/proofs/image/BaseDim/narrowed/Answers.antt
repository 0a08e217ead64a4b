use Rattle.std.proofs.Common.{◌≡◌, ℕ, ℤ, Bool, true, false, cond, ◌==◌, sym, refl, ◌∙◌}
use Rattle.hpf_own.specs.declared.image.Image.{Image}
use Rattle.hpf_own.specs.declared.image.Image.TheVariants.{Along, Fixed, Spread}
use Rattle.hpf_own.specs.declared.image.Cut.TheVariants.{Whole}
use Rattle.hpf_own.specs.Side.{side_in}
use Rattle.hpf_own.proofs.Boxes.{filter_agree_all, filter-all}
use Rattle.hpf_own.proofs.image.BaseDim.narrowed.Goals as goal

-- nothing is kept out of a dimension that isn't divided
same : (t : Bool) → cond t true true ≡ true
same true = refl
same false = refl

whole : (d : ℕ) (x : ℤ) (c : ℕ) (image : Image) → side_in d x c image Whole ≡ true
whole d x c (Along dim a b) = same (dim == d)
whole d x c (Fixed n) = refl
whole d x c (Spread first step count) = refl

pub returns-in-Whole : goal.returns-in-Whole
returns-in-Whole c =
    rw c.in-Whole.is (sym (filter_agree_all (λ x. side_in c.args.d x c.args.c c.args.self.now.image Whole) (λ _. true) c.args.side (λ k d below. whole c.args.d _ c.args.c c.args.self.now.image) ∙ filter-all c.args.side))
