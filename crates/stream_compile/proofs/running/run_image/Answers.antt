use Rattle.std.proofs.Common.{refl, arith}
use Rattle.stream_compile.specs.Outputs.{view}
use Rattle.stream_compile.proofs.ImageCalls.{begun, unrunnable_runs}
use Rattle.stream_compile.proofs.Printed.{ended_told, failed_told}
use Rattle.stream_compile.proofs.running.run_image.Goals as goal

pub returns-in-Some-clause-told : goal.returns-in-Some-clause-told
returns-in-Some-clause-told g c =
    let call = c.args.call.now in
    let values = c.deref.result.now in
    let b = begun call c.as_str-name.result.now c.as_slice.result.now c.in_ok-values.values.items values c.as_slice.ensures c.in_ok-values.ensures.values c.in_ok-values.ensures.ranges c.deref.ensures.value c.as_str-name.ensures in
    let o = view c.in_ok-unrunnable.field-0 in
    (o, unrunnable_runs c.args.drill c.args.image.now call c.as_str-name.result.now values c.run_checks.result c.in-Some.why o b c.in-Some.is c.run_checks.ensures c.in_ok-unrunnable.ensures, c.write.ensures)

pub write_end-requires-clause-count : goal.write_end-requires-clause-count
write_end-requires-clause-count g c =
    omega (arith, c.in-Some-run_hosted.ensures.faults, c.requires.count)

pub returns-in-Some-run_hosted-clause-told : goal.returns-in-Some-run_hosted-clause-told
returns-in-Some-run_hosted-clause-told g c =
    let call = c.args.call.now in
    let name = c.as_str-name.result.now in
    let values = c.in_ok-values.values.items in
    let b = begun call name c.as_slice.result.now values values c.as_slice.ensures c.in_ok-values.ensures.values c.in_ok-values.ensures.ranges refl c.as_str-name.ensures in
    let ran = rw c.deref-2.ensures.value at c.in-Some-run_hosted.ensures.run in
    ended_told c.args.drill c.args.image.now call name values c.run_checks.result b c.in_default.is (rw c.deref.ensures.value at c.run_checks.ensures) ran.0 c.in-Some-run_hosted.end _ _ c.write_end.result (g.O.Sink.faults c.args.out.now) (g.O.Sink.faults c.run_hosted.new.out)
    (g.O.Sink.faults c.write_end.new.out) (g.O.Sink.written c.args.out.now) (g.O.Sink.written c.run_hosted.new.out) (g.O.Sink.written c.write_end.new.out) ran.1 ran.2 c.in-Some-run_hosted.ensures.faults c.write_end.ensures

pub returns-clause-told : goal.returns-clause-told
returns-clause-told g c =
    let call = c.args.call.now in
    let name = c.as_str-name.result.now in
    let values = c.in_ok-values.values.items in
    let b = begun call name c.as_slice.result.now values values c.as_slice.ensures c.in_ok-values.ensures.values c.in_ok-values.ensures.ranges refl c.as_str-name.ensures in
    let ran = rw c.deref-2.ensures.value at c.in-None.ensures.run in
    failed_told c.args.drill c.args.image.now call name values c.run_checks.result b c.in_default.is (rw c.deref.ensures.value at c.run_checks.ensures) ran.0 (g.O.Sink.faults c.args.out.now) (g.O.Sink.faults c.run_hosted.new.out) (g.O.Sink.written c.args.out.now)
    (g.O.Sink.written c.run_hosted.new.out) ran.1 ran.2 c.requires.count c.in-None.ensures.faults
