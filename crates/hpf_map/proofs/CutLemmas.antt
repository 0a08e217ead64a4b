-- Who owns a position, by formats and by cuts.
use Rattle.std.proofs.Common.{◌≡◌, ℕ, suc, ◌+◌, ◌<◌, Bool, ◌&&◌, List, [], ◌∷◌, length, get_or, Option, Some, None, ℤ, pos, arith, sym, ap, ◌∙◌, refl}
use Rattle.std.specs.List.{list_all, range_with_len}
use Rattle.hpf_dist.specs.Axis.{before}
use Rattle.hpf_dist.specs.declared.format.Format.{Format}
use Rattle.hpf_own.specs.declared.image.BaseDim.{BaseDim}
use Rattle.hpf_own.specs.declared.image.Image.{Image}
use Rattle.hpf_own.specs.Owners.{is_owned, is_owned_whole}
use Rattle.hpf_map.specs.declared.name.Span.{Span}
use Rattle.hpf_map.specs.Alignments.{no_span}
use Rattle.hpf_map.specs.Cuts.{cut_with}
use Rattle.hpf_map.specs.Dealing.{Dealt, over, target_at, format_at}
use Rattle.hpf_map.specs.Mapped.{no_dim, AreCut}
use Rattle.hpf_map.specs.Ownership.{is_owner, is_owned_in, owned_at}
use Rattle.hpf_map.specs.Shapes.{extent}

-- what is asked of each dimension, one after another
owned_from : (f : ℕ → Bool) (a : ℕ) (dims : List BaseDim) (at : List ℕ) (position : List ℤ) → length position ≡ length dims
    → ((k : ℕ) → k < length dims → f (a + k) ≡ is_owned (get_or dims k no_dim).cut at (get_or position k (pos 0)))
    → list_all f (range_with_len a (length dims)) ≡ is_owned_whole dims at position
owned_from f a [] at position long h = refl
owned_from f a (d ∷ dims) at [] long h = absurd (omega arith)
owned_from f a (d ∷ dims) at (u ∷ position) long h =
    let here : a ≡ a + 0 = omega arith in
    let first : f a ≡ is_owned d.cut at u = ap f here ∙ h 0 (omega arith) in
    let next = λ (k : ℕ). let same : a + 1 + k ≡ a + suc k = omega arith in same in
    rw first (ap (λ b. is_owned d.cut at u && b) (owned_from f (a + 1) dims at position (omega arith) (λ k below. ap f (next k) ∙ h (suc k) (omega arith))))

-- a dimension is owned by its format where it is by its cut
same_owner : (dealt : Dealt) (root : List Span) (at : List ℕ) (k : ℕ) (u : ℤ) (o : Option Format)
    → is_owner o (extent (target_at dealt root k)) (before (get_or root k no_span).low u) (get_or at (over dealt.formats k) 0) ≡ is_owned (cut_with dealt root o k) at u
same_owner dealt root at k u None = refl
same_owner dealt root at k u (Some f) = refl

-- a position is owned by the formats where it is owned by the cuts
pub cuts_own : (dealt : Dealt) (root : List Span) (images : List Image) (dims : List BaseDim) (at : List ℕ) (position : List ℤ) → AreCut dealt root images dims
    → length dealt.formats ≡ length root → length position ≡ length dims → owned_at dealt root at position ≡ is_owned_whole dims at position
unfolding owned_at
cuts_own dealt root images dims at position cut rank long =
    let many : length dealt.formats ≡ length dims = rank ∙ sym cut.size in
    ap (λ n. list_all (is_owned_in dealt root at position) (range_with_len 0 n)) many
    ∙ owned_from (is_owned_in dealt root at position) 0 dims at position long
    (λ k below.
    let zero_first : 0 + k ≡ k = omega arith in
    ap (is_owned_in dealt root at position) zero_first
    ∙ same_owner dealt root at k (get_or position k (pos 0)) (format_at dealt root k)
    ∙ ap (λ (d : BaseDim). is_owned d.cut at (get_or position k (pos 0))) (sym (cut.each k below)))
