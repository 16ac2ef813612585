use Rattle.std.proofs.Common.{◌≡◌, ◌*◌, List, None, length, map, take, sym, ap, ◌∙◌, subst, arith}
use Rattle.rv64im_machine.specs.Contents.{state_of}
use Rattle.wasm_defs.specs.declared.types.FuncType.{FuncType}
use Rattle.wasm_defs.specs.declared.types.ValType.{ValType}
use Rattle.wasm_defs.specs.Values.{type_of, value_of}
use Rattle.wasm_defs.specs.Memory.{page}
use Rattle.image_format.specs.declared.limits.TheConstants.{PARAMS}
use Rattle.image_run.specs.Checks.{export_named, unfit}
use Rattle.image_run.specs.States.{Contents}
use Rattle.image_run.proofs.RunLaws.{of_image}
use Rattle.image_run.proofs.SignatureLaws.{few_arguments, few_results}
use Rattle.image_run.proofs.ResultLaws.{tells_count}
use Rattle.image_run.proofs.RoomLaws.{room_kept}
use Rattle.image_run.proofs.StartLaws.{over_at_start, over_then, returns_then}
use Rattle.image_run.proofs.instance.Instance.start_and_run.Goals as goal

pub returns-in-Some-run_start-clause-run : goal.returns-in-Some-run_start-clause-run
returns-in-Some-run_start-clause-run g c =
    let i = c.self.inside.image.now in
    let e = c.in-Some.export.now in
    let arguments = map value_of c.args.arguments.now in
    rw (← c.self.view_is)
    (e, sym c.in-Some.ensures, over_at_start g.row.H.Denot g.H.Host.answers i c.args.host.now c.args.steps e arguments (state_of c.run_start.new.machine) c.run_start.new.pages c.run_start.new.left c.run_start.new.host c.in-Some-run_start.outcome c.in-Some-run_start.ensures.starts)

pub returns-in-Some-run_start-clause-count : goal.returns-in-Some-run_start-clause-count
returns-in-Some-run_start-clause-count g c =
    tells_count c.in-Some-run_start.outcome (take (page * c.run_start.new.pages) (state_of c.run_start.new.machine).bytes.memory) _ (returns-in-Some-run_start-clause-run g c).2.end

pub enter-requires : goal.enter-requires
enter-requires g c =
    let i = c.self.inside.image.now in
    let fit = subst (λ (s : Contents). unfit s.image (map type_of c.args.arguments.now) (export_named c.args.export.now s.image.exports) ≡ None) (sym c.self.view_is) c.requires.fit in
    let few = few_arguments i c.args.export.now c.args.arguments.now c.in-Some.export.now c.self.invariant.bounds fit (sym c.in-Some.ensures) in
    omega (arith, few, c.in_default-run_start.ensures.machine.stack)

pub run_function-requires-clause-machine : goal.run_function-requires-clause-machine
run_function-requires-clause-machine g c =
    of_image c.self.inside.image.now c.run_start.new.machine c.enter.new.machine c.run_start.new.pages c.in_default-run_start.ensures.machine c.enter.ensures.kept

pub returns-in-Some-run_function-clause-run : goal.returns-in-Some-run_function-clause-run
returns-in-Some-run_function-clause-run g c =
    let i = c.self.inside.image.now in
    let e = c.in-Some.export.now in
    let arguments = map value_of c.args.arguments.now in
    rw (← c.self.view_is) (
      e,
      sym c.in-Some.ensures,
      over_then g.row.H.Denot g.H.Host.answers i c.args.host.now c.args.steps e arguments (state_of c.run_start.new.machine) (state_of c.enter.new.machine) (state_of c.run_function.new.machine) c.run_start.new.pages c.run_function.new.pages
          c.run_start.new.left c.run_function.new.left c.run_start.new.host c.run_function.new.host c.in_default-run_start.ensures.starts c.enter.ensures.state c.in-Some-run_function.outcome c.in-Some-run_function.ensures.runs,
    )

pub returns-clause-run : goal.returns-clause-run
returns-clause-run g c =
    let i = c.self.inside.image.now in
    let e = c.in-Some.export.now in
    let arguments = map value_of c.args.arguments.now in
    rw (← c.self.view_is) (
      e,
      sym c.in-Some.ensures,
      returns_then g.row.H.Denot g.H.Host.answers i c.args.host.now c.args.steps e arguments (state_of c.run_start.new.machine) (state_of c.enter.new.machine) (state_of c.run_function.new.machine) c.run_start.new.pages c.run_function.new.pages
          c.run_start.new.left c.run_function.new.left c.run_start.new.host c.run_function.new.host c.in_default-run_start.ensures.starts c.enter.ensures.state _ c.in_default-run_function.ensures.runs (ap (λ (types : List ValType). length types) (c.as_slice.ensures ∙ ap (λ (f : FuncType). f.results) c.deref.ensures)),
    )

pub returns-in-Some-run_function-clause-count : goal.returns-in-Some-run_function-clause-count
returns-in-Some-run_function-clause-count g c =
    tells_count c.in-Some-run_function.outcome (take (page * c.run_function.new.pages) (state_of c.run_function.new.machine).bytes.memory) _ (returns-in-Some-run_function-clause-run g c).2.end

pub returns-clause-count : goal.returns-clause-count
returns-clause-count g c = (returns-clause-run g c).2.end.0

pub overflow_cast-result : goal.overflow_cast-result
overflow_cast-result g c =
    let e = c.in-Some.export.now in
    let few = few_results c.self.inside.image.now c.args.export.now e c.self.invariant.bounds (sym c.in-Some.ensures) in
    let types = c.as_slice.ensures ∙ ap (λ (f : FuncType). f.results) c.deref.ensures in
    omega (arith, few, ap (λ (l : List ValType). length l) types)

pub invariant_of-self-2 : goal.invariant_of-self-2
invariant_of-self-2 g c = record {
  bounds = c.self.invariant.bounds;
  machine = c.in_default-run_function.ensures.machine;
  fits = room_kept PARAMS c.self.inside.room.len c.run_start.new.room c.run_function.new.room c.self.inside.room.items (omega (arith, c.self.inside.room.ok.0)) c.self.invariant.fits;
  bytes = λ not_run. absurd cc;
  first_pages = λ not_run. absurd cc;
  few_results = few_results c.self.inside.image.now c.args.export.now c.in-Some.export.now c.self.invariant.bounds (sym c.in-Some.ensures);
}
