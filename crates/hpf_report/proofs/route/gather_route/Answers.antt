use Rattle.std.proofs.Common.{◌≡◌, ℕ, ◌+◌, ◌<◌, ◌≤◌, List, [], ◌++◌, length, get_or, take, drop, Ok, arith, sym, ap, ◌∙◌, refl, append_assoc, append-nil, subst}
use Rattle.std.specs.List.{flat_map}
use Rattle.std.proofs.lemmas.Result.{err_from_is_err_and}
use Rattle.std.proofs.lemmas.Option.{get_or_from_slice_get, slice_get_within}
use Rattle.hpf_sched.specs.declared.step.Step.{Step}
use Rattle.hpf_sched.specs.Moves.{runs}
use Rattle.hpf_report.specs.Gathers.{Gathers}
use Rattle.hpf_report.specs.RouteText.{route_line, run_line, route_text}
use Rattle.hpf_report.proofs.Gathering.{Gathers-then, Gathers-cut, gathers_line}
use Rattle.hpf_report.proofs.Lines.{item_more, text_parts, text_whole}
use Rattle.hpf_report.proofs.route.gather_route.Goals as goal

pub returns-in_err-make_room : goal.returns-in_err-make_room
returns-in_err-make_room g c =
    let p = err_from_is_err_and c.from_residual.result c.from_residual.ensures.1 in
    rw (p.1) (Gathers-cut (route_text c.args.hop c.args.p c.args.q c.args.route.now) c.in_err-make_room.ensures.text)

pub loop-k-init : goal.loop-k-init
loop-k-init g c =
    let line = route_line c.args.hop c.args.p c.args.q c.args.route.now in
    record { so_far = rw (append-nil line) (gathers_line line c.in_ok-make_room.ensures.text c.push_route.ensures.bytes) }

pub returns-in_err-make_room-2 : goal.returns-in_err-make_room-2
returns-in_err-make_room-2 g c =
    let line = route_line c.args.hop c.args.p c.args.q c.args.route.now in
    let xs = runs c.args.route.now in
    let k = c.loop-k.k in
    let p = err_from_is_err_and c.from_residual-in_err-make_room-2.result c.from_residual-in_err-make_room-2.ensures.1 in
    let whole : (line ++ flat_map run_line (take k xs)) ++ flat_map run_line (drop k xs) ≡ line ++ flat_map run_line xs =
    append_assoc line (flat_map run_line (take k xs)) (flat_map run_line (drop k xs)) ∙ ap (λ (zs : List ℕ). line ++ zs) (sym (text_parts run_line xs k)) in
    rw (p.1) (rw (sym whole) (Gathers-then {xs = line ++ flat_map run_line (take k xs)} c.loop-k.invariant.so_far (Gathers-cut (flat_map run_line (drop k xs)) c.in_err-make_room-2.ensures.text)))

pub loop-k-preserved : goal.loop-k-preserved
loop-k-preserved g c =
    let line = route_line c.args.hop c.args.p c.args.q c.args.route.now in
    let xs = runs c.args.route.now in
    let k = c.loop-k.k in
    let step = c.step.result in
    let within = slice_get_within xs k step c.step.ensures in
    let is : step ≡ get_or xs k step = sym (get_or_from_slice_get xs k step step c.step.ensures) in
    let more = gathers_line (run_line step) c.in_ok-make_room-2.ensures.text c.push_run.ensures.bytes in
    record { so_far = rw (sym (item_more run_line line (line ++ flat_map run_line (take k xs)) xs k step within is refl)) (Gathers-then {xs = line ++ flat_map run_line (take k xs)} c.loop-k.invariant.so_far more) }

pub returns : goal.returns
returns g c =
    let xs = runs c.args.route.now in
    rw (sym (text_whole run_line xs c.loop-k.k (omega arith))) c.loop-k.invariant.so_far
