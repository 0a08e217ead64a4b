-- The greatest line of the places that statements keep.
use Rattle.std.specs.Prelude.{ℕ, ◌+◌, List, [], ◌∷◌, map, max, min, Option, Some, None}
use Rattle.hpf_syntax.specs.declared.tree.At.{At}
use Rattle.hpf_syntax.specs.declared.tree.Spot.{Spot}
use Rattle.hpf_syntax.specs.declared.tree.SourceItem.{SourceItem}
use Rattle.hpf_syntax.specs.declared.tree.SourceItem.TheVariants as source
use Rattle.hpf_syntax.specs.Plain.{Tree, Number, Name, Neg, Plus, Minus, Times, BoundTree, DeclaredTree, ValueTree, One, Many, ConstantTree, FormatTree, Star, Block, Cyclic, GenBlock, Indirect, SubTree, AnyPlace, OnePlace, Triplet, WidthTree, OpTree, Plain, Add, Mul, Prefix, Stencil, ItemTree, ImplicitNone, Variables, Constants, Processors, Template, Distribute, Align, Shadow, Input, Stage}

-- the greatest of these, 0 for none
abbrev pub greatest_of : List ℕ → ℕ
greatest_of [] = 0
greatest_of (n ∷ ns) = max n (greatest_of ns)

-- of a list, and of what may be there
abbrev pub in_all : {A : Type 0} → (A → ℕ) → List A → ℕ
in_all line xs = greatest_of (map line xs)

abbrev pub in_maybe : {A : Type 0} → (A → ℕ) → Option A → ℕ
in_maybe line None = 0
in_maybe line (Some x) = line x

unfoldable pub in_tree : Tree → ℕ
in_tree (Number at n) = at.line
in_tree (Name at word) = at.line
in_tree (Neg at e) = max at.line (in_tree e)
in_tree (Plus at a b) = max at.line (max (in_tree a) (in_tree b))
in_tree (Minus at a b) = max at.line (max (in_tree a) (in_tree b))
in_tree (Times at a b) = max at.line (max (in_tree a) (in_tree b))

abbrev pub in_spot : Spot → ℕ
in_spot spot = spot.at.line

abbrev pub in_bound : BoundTree → ℕ
in_bound b = max (in_maybe in_tree b.low) (in_tree b.high)

abbrev pub in_declared : DeclaredTree → ℕ
in_declared d = max (in_spot d.name) (in_all in_bound d.shape)

abbrev pub in_value : ValueTree → ℕ
in_value (One e) = in_tree e
in_value (Many es) = in_all in_tree es

abbrev pub in_constant : ConstantTree → ℕ
in_constant c = max (in_spot c.name) (max (in_all in_bound c.shape) (in_value c.value))

abbrev pub in_format : FormatTree → ℕ
in_format (Star at) = at.line
in_format (Block at width) = max at.line (in_maybe in_tree width)
in_format (Cyclic at width) = max at.line (in_maybe in_tree width)
in_format (GenBlock at name) = max at.line (in_spot name)
in_format (Indirect at name) = max at.line (in_spot name)

abbrev pub in_source : SourceItem → ℕ
in_source (source.Colon at) = at.line
in_source (source.Star at) = at.line
in_source (source.Dummy dummy) = in_spot dummy

abbrev pub in_subscript : SubTree → ℕ
in_subscript (AnyPlace at) = at.line
in_subscript (OnePlace e) = in_tree e
in_subscript (Triplet at low high step) = max at.line (max (in_maybe in_tree low) (max (in_maybe in_tree high) (in_maybe in_tree step)))

abbrev pub in_width : WidthTree → ℕ
in_width w = max (in_tree w.low) (in_maybe in_tree w.high)

abbrev pub in_operation : OpTree → ℕ
in_operation Plain = 0
in_operation (Add at e) = max at.line (in_tree e)
in_operation (Mul at e) = max at.line (in_tree e)
in_operation (Prefix at e) = max at.line (in_tree e)
in_operation (Stencil at e weights) = max at.line (max (in_tree e) (in_all in_tree weights))

unfoldable pub in_item : ItemTree → ℕ
in_item (ImplicitNone at) = at.line
in_item (Variables common names) = max (in_all in_bound common) (in_all in_declared names)
in_item (Constants common names) = max (in_all in_bound common) (in_all in_constant names)
in_item (Processors names) = in_all in_declared names
in_item (Template names) = in_all in_declared names
in_item (Distribute names formats onto) = max (in_all in_spot names) (max (in_all in_format formats) (in_maybe in_spot onto))
in_item (Align names sources base subs) =
    max (in_all in_spot names) (max (in_maybe (in_all in_source) sources) (max (in_spot base) (in_maybe (in_all in_subscript) subs)))
in_item (Shadow names widths) = max (in_all in_spot names) (in_all in_width widths)
in_item (Input at name buffers op) = max at.line (max (in_spot name) (max (in_maybe in_tree buffers) (in_operation op)))
in_item (Stage at name permute buffers op) =
    max at.line (max (in_spot name) (max (in_maybe (in_all in_tree) permute) (max (in_maybe in_tree buffers) (in_operation op))))

-- The place of what is missing: column 1 of the line after the greatest one, which is line 1 where there is no statement.
-- (No text has more lines than a place can tell.)
abbrev pub place_behind : List ItemTree → At
place_behind items = record { line = min (in_all in_item items + 1) 4294967295; column = 1 }
