use Rattle.std.proofs.Common.{◌≡◌, ◌++◌, List, ℕ, length, take, arith, ap, sym, ◌∙◌}
use Rattle.std.proofs.lemmas.Bool.Decides.{Decides-eqb}
use Rattle.hpf_gen.specs.Left.{left}
use Rattle.hpf_gen.proofs.Files.{moved_front, no_bytes}
use Rattle.hpf_gen.proofs.generator.GenSource.take.Goals as goal
use Rattle.hpf_gen.proofs.generator.GenSource.take.Goals.{After-take, then-is_empty, else-is_empty}

-- more bytes are made where none are ready, and those that are left stay the same
whole : (c : After-take) → c.args.self.now ≡ c.if-is_empty.self-inside.ready ++ left c.if-is_empty.self-inside.frames c.if-is_empty.self-inside.next
whole c =
    elim c.if-is_empty.branch [
      | then-is_empty w ↦
          let none = no_bytes c.self.inside.ready ((Decides-eqb (length c.self.inside.ready) 0).0 (sym w.if-is_empty.ensures)) in
          rw w.self-inside-is (sym c.self.view_is ∙ ap (λ (xs : List ℕ). xs ++ left c.self.inside.frames c.self.inside.next) none ∙ sym w.next_piece-ready.ensures.same)
      | else-is_empty w ↦ rw w.self-inside-is (sym c.self.view_is)
    ]

pub returns-clause-moved : goal.returns-clause-moved
returns-clause-moved c =
    moved_front c.take.result c.args.self.now c.if-is_empty.self-inside.ready c.take.new.self (take c.take.result c.take.new.into) (left c.if-is_empty.self-inside.frames c.if-is_empty.self-inside.next)
    (whole (goal.at.returns-clause-moved c).After-take) c.take.ensures.moved c.take.ensures.left
