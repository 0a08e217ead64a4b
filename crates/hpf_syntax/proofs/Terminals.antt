-- Terminals are told apart, and sets of them are lists.
use Rattle.std.proofs.Common.{◌≡◌, ℕ, Bool, true, false, not, ◌&&◌, ◌||◌, List, [], ◌∷◌, ◌++◌, get_or, refl, sym, ap, ◌∙◌, inl, inr}
use Rattle.std.specs.Prelude.{◌⊎◌}
use Rattle.std.proofs.lemmas.Bool.{eqb-true}
use Rattle.hpf_syntax.specs.declared.terminal.Terminal.{Terminal}
use Rattle.hpf_syntax.specs.declared.terminal.Terminal.TheVariants as terminal
use Rattle.hpf_syntax.specs.Terminal.{number_of, same}

all_terminals : List Terminal
all_terminals =
    terminal.Missing ∷ terminal.Name ∷ terminal.Hpf ∷ terminal.Pipe ∷ terminal.Number ∷ terminal.LeftParen ∷
    terminal.RightParen ∷ terminal.LeftArray ∷ terminal.RightArray ∷ terminal.Comma ∷ terminal.Colon ∷
    terminal.DoubleColon ∷ terminal.Star ∷ terminal.Plus ∷ terminal.Minus ∷ terminal.Equals ∷ terminal.End ∷
    terminal.Add ∷ terminal.Align ∷ terminal.Block ∷ terminal.Buffers ∷ terminal.Cyclic ∷
    terminal.Dimension ∷ terminal.Distribute ∷ terminal.Dynamic ∷ terminal.GenBlock ∷ terminal.Implicit ∷
    terminal.Indirect ∷ terminal.Inherit ∷ terminal.Input ∷ terminal.Integer ∷ terminal.Mul ∷
    terminal.NoneWord ∷ terminal.Onto ∷ terminal.Parameter ∷ terminal.Permute ∷ terminal.Prefix ∷
    terminal.Processors ∷ terminal.Realign ∷ terminal.Redistribute ∷ terminal.Reduce ∷ terminal.Shadow ∷
    terminal.Stage ∷ terminal.Stencil ∷ terminal.Template ∷ terminal.With ∷ []

numbered_so : (t : Terminal) → get_or all_terminals (number_of t) terminal.Missing ≡ t
unfolding all_terminals number_of
numbered_so terminal.Missing = refl
numbered_so terminal.Name = refl
numbered_so terminal.Hpf = refl
numbered_so terminal.Pipe = refl
numbered_so terminal.Number = refl
numbered_so terminal.LeftParen = refl
numbered_so terminal.RightParen = refl
numbered_so terminal.LeftArray = refl
numbered_so terminal.RightArray = refl
numbered_so terminal.Comma = refl
numbered_so terminal.Colon = refl
numbered_so terminal.DoubleColon = refl
numbered_so terminal.Star = refl
numbered_so terminal.Plus = refl
numbered_so terminal.Minus = refl
numbered_so terminal.Equals = refl
numbered_so terminal.End = refl
numbered_so terminal.Add = refl
numbered_so terminal.Align = refl
numbered_so terminal.Block = refl
numbered_so terminal.Buffers = refl
numbered_so terminal.Cyclic = refl
numbered_so terminal.Dimension = refl
numbered_so terminal.Distribute = refl
numbered_so terminal.Dynamic = refl
numbered_so terminal.GenBlock = refl
numbered_so terminal.Implicit = refl
numbered_so terminal.Indirect = refl
numbered_so terminal.Inherit = refl
numbered_so terminal.Input = refl
numbered_so terminal.Integer = refl
numbered_so terminal.Mul = refl
numbered_so terminal.NoneWord = refl
numbered_so terminal.Onto = refl
numbered_so terminal.Parameter = refl
numbered_so terminal.Permute = refl
numbered_so terminal.Prefix = refl
numbered_so terminal.Processors = refl
numbered_so terminal.Realign = refl
numbered_so terminal.Redistribute = refl
numbered_so terminal.Reduce = refl
numbered_so terminal.Shadow = refl
numbered_so terminal.Stage = refl
numbered_so terminal.Stencil = refl
numbered_so terminal.Template = refl
numbered_so terminal.With = refl

pub same_true : (a b : Terminal) → same a b ≡ true → a ≡ b
unfolding same
same_true a b e = sym (numbered_so a) ∙ ap (λ (n : ℕ). get_or all_terminals n terminal.Missing) (eqb-true (number_of a) (number_of b) e) ∙ numbered_so b

pub same_refl : (a : Terminal) → same a a ≡ true
unfolding same number_of
same_refl terminal.Missing = refl
same_refl terminal.Name = refl
same_refl terminal.Hpf = refl
same_refl terminal.Pipe = refl
same_refl terminal.Number = refl
same_refl terminal.LeftParen = refl
same_refl terminal.RightParen = refl
same_refl terminal.LeftArray = refl
same_refl terminal.RightArray = refl
same_refl terminal.Comma = refl
same_refl terminal.Colon = refl
same_refl terminal.DoubleColon = refl
same_refl terminal.Star = refl
same_refl terminal.Plus = refl
same_refl terminal.Minus = refl
same_refl terminal.Equals = refl
same_refl terminal.End = refl
same_refl terminal.Add = refl
same_refl terminal.Align = refl
same_refl terminal.Block = refl
same_refl terminal.Buffers = refl
same_refl terminal.Cyclic = refl
same_refl terminal.Dimension = refl
same_refl terminal.Distribute = refl
same_refl terminal.Dynamic = refl
same_refl terminal.GenBlock = refl
same_refl terminal.Implicit = refl
same_refl terminal.Indirect = refl
same_refl terminal.Inherit = refl
same_refl terminal.Input = refl
same_refl terminal.Integer = refl
same_refl terminal.Mul = refl
same_refl terminal.NoneWord = refl
same_refl terminal.Onto = refl
same_refl terminal.Parameter = refl
same_refl terminal.Permute = refl
same_refl terminal.Prefix = refl
same_refl terminal.Processors = refl
same_refl terminal.Realign = refl
same_refl terminal.Redistribute = refl
same_refl terminal.Reduce = refl
same_refl terminal.Shadow = refl
same_refl terminal.Stage = refl
same_refl terminal.Stencil = refl
same_refl terminal.Template = refl
same_refl terminal.With = refl

abbrev pub member : Terminal → List Terminal → Bool
member t [] = false
member t (w ∷ ws) = same t w || member t ws

-- no terminal is in both
abbrev pub apart : List Terminal → List Terminal → Bool
apart [] vs = true
apart (w ∷ ws) vs = not (member w vs) && apart ws vs

pub false_is_not_true : false ≡ true → ⊥
false_is_not_true e = cc

pub both_true : (a b : Bool) → (a && b) ≡ true → (a ≡ true) × (b ≡ true)
both_true true b e = (refl, e)
both_true false b e = absurd (false_is_not_true e)

not_true : (a : Bool) → not a ≡ true → a ≡ false
not_true true e = absurd (false_is_not_true e)
not_true false e = refl

pub or_true : (a b : Bool) → (a || b) ≡ true → (a ≡ true) ⊎ (b ≡ true)
or_true true b e = inl refl
or_true false b e = inr e

pub or_false : (a b : Bool) → (a || b) ≡ false → (a ≡ false) × (b ≡ false)
or_false true b e = absurd (false_is_not_true (sym e))
or_false false b e = (refl, e)

pub apart_member : (t : Terminal) (ws vs : List Terminal) → apart ws vs ≡ true → member t ws ≡ true → member t vs ≡ false
apart_member t [] vs e m = absurd (false_is_not_true m)
apart_member t (w ∷ ws) vs e m =
    let parts = both_true (not (member w vs)) (apart ws vs) e in
    elim (or_true (same t w) (member t ws) m) [
      | inl q ↦ ap (λ (x : Terminal). member x vs) (same_true t w q) ∙ not_true (member w vs) parts.0
      | inr n ↦ apart_member t ws vs parts.1 n
    ]

or_step : (a x y z : Bool) → x ≡ (y || z) → (a || x) ≡ ((a || y) || z)
or_step true x y z e = refl
or_step false x y z e = e

pub member_append : (t : Terminal) (ws vs : List Terminal) → member t (ws ++ vs) ≡ (member t ws || member t vs)
member_append t [] vs = refl
member_append t (w ∷ ws) vs = or_step (same t w) (member t (ws ++ vs)) (member t ws) (member t vs) (member_append t ws vs)
