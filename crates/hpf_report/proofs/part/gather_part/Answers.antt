use Rattle.std.proofs.Common.{rules, ◌≡◌, ℕ, ℤ, ◌+◌, ◌<◌, ◌≤◌, List, [], ◌++◌, length, get_or, take, drop, Ok, Err, codes, arith, sym, ap, pos, ◌∙◌, refl, append_assoc, append-nil, subst}
use Rattle.std.specs.List.{flat_map}
use Rattle.std.proofs.lemmas.Result.{err_from_is_err_and}
use Rattle.std.proofs.lemmas.List.{get_or_default}
use Rattle.hpf_report.specs.Gathers.{Gathers}
use Rattle.hpf_report.specs.PartText.{part_head, value_text, part_line}
use Rattle.hpf_report.proofs.Gathering.{Gathers-then, Gathers-cut, Gathers-is, gathers_line}
use Rattle.hpf_report.proofs.Lines.{item_more, text_parts, text_whole}
use Rattle.hpf_report.proofs.part.gather_part.Goals as goal

pub returns-in_err-make_room : goal.returns-in_err-make_room
returns-in_err-make_room g c =
    let p = err_from_is_err_and c.from_residual.result c.from_residual.ensures.1 in
    rw (p.1) (Gathers-cut (part_line c.args.frame c.args.proc c.args.values.now) c.in_err-make_room.ensures.text)

pub loop-value-init : goal.loop-value-init
loop-value-init g c =
    let head = part_head c.args.frame c.args.proc in
    record { so_far = rw (append-nil head) (gathers_line head c.in_ok-make_room.ensures.text c.push_head.ensures.bytes) }

-- the text so far and a part more are the line, where the values are all told by these
whole_is : (head text rest end all : List ℕ) → text ++ rest ≡ all → (head ++ text) ++ (rest ++ end) ≡ (head ++ all) ++ end
whole_is head text rest end all e =
    sym (append_assoc (head ++ text) rest end) ∙ ap (λ (zs : List ℕ). zs ++ end) (append_assoc head text rest ∙ ap (λ (zs : List ℕ). head ++ zs) e)

-- the same, where no value is left
end_is : (head text end all : List ℕ) → text ≡ all → (head ++ text) ++ end ≡ (head ++ all) ++ end
end_is head text end all e = ap (λ (zs : List ℕ). (head ++ zs) ++ end) e

pub returns-in_err-make_room-2 : goal.returns-in_err-make_room-2
returns-in_err-make_room-2 g c =
    let head = part_head c.args.frame c.args.proc in
    let xs = c.args.values.now in
    let k = c.loop-value.value-index in
    let p = err_from_is_err_and c.from_residual-in_err-make_room-2.result c.from_residual-in_err-make_room-2.ensures.1 in
    let text = flat_map value_text (take k xs) in
    let rest = flat_map value_text (drop k xs) in
    rw (p.1) (Gathers-is {result = Err p.0} (whole_is head text rest (codes "\n") (flat_map value_text xs) (sym (text_parts value_text xs k))) (Gathers-then {xs = head ++ text} c.loop-value.invariant.so_far (Gathers-cut (rest ++ codes "\n") c.in_err-make_room-2.ensures.text)))

pub loop-value-preserved : goal.loop-value-preserved
loop-value-preserved g c =
    let head = part_head c.args.frame c.args.proc in
    let xs = c.args.values.now in
    let k = c.loop-value.value-index in
    let value = get_or xs k (pos 0) in
    let within : k < length xs = omega arith in
    let text = head ++ flat_map value_text (take k xs) in
    let is : c.push_value.new.gathered.bytes ≡ c.make_room-in-loop-value.new.gathered.bytes ++ value_text value = search rules in
    let more = gathers_line (value_text value) c.in_ok-make_room-2.ensures.text is in
    record { so_far = Gathers-is (item_more value_text head text xs k value within (get_or_default xs k (pos 0) value within) refl) (Gathers-then {xs = text} c.loop-value.invariant.so_far more) }

pub returns-in_err-make_room-3 : goal.returns-in_err-make_room-3
returns-in_err-make_room-3 g c =
    let head = part_head c.args.frame c.args.proc in
    let xs = c.args.values.now in
    let k = c.loop-value.value-index in
    let p = err_from_is_err_and c.from_residual-in_err-make_room-3.result c.from_residual-in_err-make_room-3.ensures.1 in
    let text = flat_map value_text (take k xs) in
    rw (p.1) (Gathers-is {result = Err p.0} (end_is head text (codes "\n") (flat_map value_text xs) (text_whole value_text xs k (omega arith))) (Gathers-then {xs = head ++ text} c.loop-value.invariant.so_far (Gathers-cut (codes "\n") c.in_err-make_room-3.ensures.text)))

pub returns : goal.returns
returns g c =
    let head = part_head c.args.frame c.args.proc in
    let xs = c.args.values.now in
    let k = c.loop-value.value-index in
    let text = flat_map value_text (take k xs) in
    Gathers-is (end_is head text (codes "\n") (flat_map value_text xs) (text_whole value_text xs k (omega arith))) (Gathers-then {xs = head ++ text} c.loop-value.invariant.so_far (gathers_line (codes "\n") c.in_ok-make_room-3.ensures.text c.push_str.ensures.bytes))
