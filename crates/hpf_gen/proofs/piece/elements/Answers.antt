use Rattle.std.proofs.Common.{◌≡◌, ◌+◌, ◌<◌, ◌≤◌, ◌++◌, List, ℕ, ℤ, length, map, append_assoc, arith, ap, sym, subst, ◌∙◌}
use Rattle.std.specs.List.{flat_map, range_with_len}
use Rattle.hpf_frame.specs.FrameFile.{version_one, element}
use Rattle.hpf_gen.specs.Generated.{value}
use Rattle.hpf_gen.specs.Left.{elements_left, records_left}
use Rattle.hpf_gen.proofs.Files.{some_left, some_bytes}
use Rattle.hpf_gen.proofs.piece.elements.Goals as goal

-- what was made
made : (c : goal.After-behind) → c.of_values.result ≡ flat_map (element version_one) (map (value c.args.frames.seed c.args.frame) (range_with_len c.args.from c.min-count.result))
made c = c.of_values.ensures ∙ ap (flat_map (element version_one)) c.make_values.ensures

pub returns-clause-same : goal.returns-clause-same
returns-clause-same c =
    let frames = c.args.frames in
    let f = c.args.frame in
    let count = c.min-count.result in
    let some = flat_map (element version_one) (map (value frames.seed f) (range_with_len c.args.from count)) in
    let behind = elements_left frames f (c.args.from + count) in
    ap (λ (xs : List ℕ). c.of_values.result ++ xs) c.behind.ensures.same
    ∙ ap (λ (xs : List ℕ). xs ++ (behind ++ records_left frames (f + 1))) (made c)
    ∙ sym (append_assoc some behind (records_left frames (f + 1)))
    ∙ ap (λ (xs : List ℕ). xs ++ records_left frames (f + 1)) (sym (some_left frames f c.args.from count (omega (arith, c.min-count.ensures, c.requires.next))))

pub returns-clause-some : goal.returns-clause-some
returns-clause-some c =
    let one : 1 ≤ c.min-count.result = omega (arith, c.min-count.ensures, c.requires.next) in
    rw (made c) (some_bytes c.args.frames.seed c.args.frame c.args.from c.min-count.result one)
