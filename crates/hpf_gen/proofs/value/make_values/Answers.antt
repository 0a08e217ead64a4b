use Rattle.std.proofs.Common.{◌≡◌, ◌+◌, ◌<◌, ℤ, List, ◌∷◌, [], ◌++◌, length, map, take, SFits, w32, of_z, to_z, arith, ap, sym, ◌∙◌, refl}
use Rattle.std.specs.List.{range_with_len}
use Rattle.std.proofs.lemmas.Int.{to_z-of_z}
use Rattle.std.proofs.lemmas.List.{take_more_set, length-set}
use Rattle.std.proofs.lemmas.List.FromFn.{map-range_with_len_more}
use Rattle.hpf_gen.specs.Generated.{value}
use Rattle.hpf_gen.proofs.value.make_values.Goals as goal

pub loop-i-preserved : goal.loop-i-preserved
loop-i-preserved c =
    let i = c.loop-i.i in
    let v = c.value_at.result in
    let f = value c.args.seed c.args.frame in
    let within : i < length c.loop-i.into = omega (arith, c.requires.room, c.loop-i.invariant.len) in
    let fits : SFits w32 v = record { sfits = c.value_at.type_inv } in
    record {
      len = length-set c.loop-i.into i _ ∙ c.loop-i.invariant.len;
      done = rw (to_z-of_z w32 v fits) (take_more_set c.loop-i.into i v within ∙ ap (λ (xs : List ℤ). xs ++ v ∷ []) c.loop-i.invariant.done ∙ ap (λ (u : ℤ). map f (range_with_len c.args.from i) ++ u ∷ []) c.value_at.ensures ∙ sym (map-range_with_len_more f c.args.from i (c.args.from + i) refl));
    }

pub returns : goal.returns
returns c =
    let all : c.loop-i.i ≡ c.args.count = omega arith in
    rw (sym all) c.loop-i.invariant.done
