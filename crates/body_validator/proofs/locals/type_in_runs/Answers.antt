use Rattle.std.proofs.Common.{◌≡◌, ◌+◌, ◌-◌, ◌/◌, ◌<◌, length, take, get_or, Some, refl, sym, ap, subst, ◌∙◌, arith}
use Rattle.std.specs.Prelude.{slice_get}
use Rattle.std.proofs.lemmas.Bool.{ltb-true, ltb-false}
use Rattle.std.proofs.lemmas.List.{take_all}
use Rattle.std.proofs.lemmas.Option.{slice_get_within, slice_get_read, slice_get-get_or}
use Rattle.wasm_defs.specs.declared.types.ValType.{ValType}
use Rattle.body_validator.specs.declared.locals.Run.{Run}
use Rattle.body_validator.specs.Runs.{end_of}
use Rattle.body_validator.proofs.RunLaws.{end_at, same_run, runs_found, runs_missed}
use Rattle.body_validator.proofs.locals.type_in_runs.Goals as goal

-- is where there is no run
abbrev first : Run
first = record { end = 0; ty = ValType.I32 }

pub loop-low-init : goal.loop-low-init
loop-low-init c = record {
  ordered = omega arith;
  within = omega arith;
  past = λ start h. h;
  before = λ r e. absurd (omega (arith, slice_get_within c.args.runs.now (length c.args.runs.now) r e));
}

pub bounds-runs-middle : goal.bounds-runs-middle
bounds-runs-middle c = omega (arith, c.loop-low.invariant.within)

pub loop-low-preserved-then-runs-middle : goal.loop-low-preserved-then-runs-middle
loop-low-preserved-then-runs-middle c =
    let l = c.loop-low in
    let runs = c.args.runs.now in
    let middle = l.low + (l.high - l.low) / 2 in
    let within : middle < length runs = omega (arith, l.invariant.within) in
    let run : Run = get_or runs middle first in
    let there : slice_get runs middle ≡ Some run = slice_get-get_or runs middle first within in
    record {
      ordered = omega arith;
      within = l.invariant.within;
      past = λ start h. omega (arith, end_at start runs middle run there, c.if-runs-middle.true);
      before = l.invariant.before;
    }

pub loop-low-preserved : goal.loop-low-preserved
loop-low-preserved c =
    let l = c.loop-low in
    let runs = c.args.runs.now in
    let middle = l.low + (l.high - l.low) / 2 in
    let within : middle < length runs = omega (arith, l.invariant.within) in
    let run : Run = get_or runs middle first in
    let there : slice_get runs middle ≡ Some run = slice_get-get_or runs middle first within in
    record {
      ordered = omega arith;
      within = omega (arith, within);
      past = l.invariant.past;
      before = λ r e. omega (arith, c.if-runs-middle.false, ap (λ (x : Run). x.end) (same_run r run (sym e ∙ there)));
    }

pub returns-in-Some : goal.returns-in-Some
returns-in-Some c = λ start up h.
    let l = c.loop-low in
    let runs = c.args.runs.now in
    let met : l.low ≡ l.high = omega (arith, l.invariant.ordered) in
    let there : slice_get runs l.low ≡ Some c.in-Some.run'.now =
    slice_get_read runs (length runs) l.low _ refl (ltb-true l.low (length runs) (sym c.in-Some.ensures.lookup.0)) c.in-Some.ensures.lookup.1 in
    sym (runs_found start runs l.low c.in-Some.run'.now (c.args.index - start) up there
    (omega (arith, l.invariant.past start h)) (omega (arith, l.invariant.before c.in-Some.run'.now (subst (λ n. slice_get runs n ≡ Some c.in-Some.run'.now) met there))))

pub returns-in-None : goal.returns-in-None
returns-in-None c = λ start up h.
    let l = c.loop-low in
    let runs = c.args.runs.now in
    let all : take l.low runs ≡ runs = take_all l.low runs (ltb-false l.low (length runs) (sym c.in-None.ensures.lookup.0)) in
    sym (runs_missed start runs (c.args.index - start) up (omega (arith, h, ap (end_of start) all, l.invariant.past start h)))
