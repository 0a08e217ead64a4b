use Rattle.std.proofs.Common.{◌≡◌, ◌≤◌, ◌++◌, List, ℕ, arith, ap, ◌∙◌}
use Rattle.hpf_frame.specs.FrameFile.{elements}
use Rattle.hpf_gen.specs.declared.piece.Frames.{Frames}
use Rattle.hpf_gen.specs.Left.{records_left}
use Rattle.hpf_gen.proofs.Files.{whole_file}
use Rattle.hpf_gen.proofs.Sizes.{some_elements}
use Rattle.hpf_gen.proofs.generator.GenSource.new.Goals as goal

pub invariant_of-result : goal.invariant_of-result
invariant_of-result c = record {
  frames_are = record {
    some = omega (arith, c.size_of.ensures, some_elements c.args.extents.now c.requires.positive);
    few = omega (arith, c.size_of.ensures, c.requires.within);
  };
  next_is = omega arith;
}

pub returns : goal.returns
returns c =
    let frames : Frames = record { size = c.size_of.result; seed = c.args.seed; count = c.args.frames } in
    ap (λ (xs : List ℕ). xs ++ records_left frames 0) (c.of.ensures ∙ c.put_header-len.ensures.bytes) ∙ whole_file frames c.args.extents.now c.size_of.ensures
