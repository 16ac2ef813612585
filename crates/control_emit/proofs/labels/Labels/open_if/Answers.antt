use Rattle.std.proofs.Common.{◌≡◌, ◌+◌, ◌-◌, ◌++◌, ◌∷◌, [], ℕ, List, map, length, length-append, None, Some, refl, sym, ap, ◌∙◌, arith, append_assoc}
use Rattle.rv_isa.specs.Words.{word_of}
use Rattle.rv_isa.specs.declared.operations.Op.{Op}
use Rattle.rv_isa.specs.declared.operations.Op.TheVariants.{Branch}
use Rattle.rv_isa.specs.declared.operations.BranchOp.TheVariants.{Bne}
use Rattle.frame_layout.specs.Macros.{x0, t0, forward, distance, far}
use Rattle.frame_layout.specs.Templates.{load_operand}
use Rattle.control_emit.specs.declared.labels.Open.{Open}
use Rattle.control_emit.specs.Pending.{pending_in}
use Rattle.control_emit.proofs.Bases.{kept-push}
use Rattle.control_emit.proofs.Views.{pending-push}
use Rattle.control_emit.proofs.Calls.{opens-test}
use Rattle.control_emit.proofs.labels.Labels.open_if.Goals as goal

pub invariant_of-self-2 : goal.invariant_of-self-2
invariant_of-self-2 c =
    let label : Open = record { base = c.args.base; takes = c.args.values; start = None; test = Some c.in_ok-test.test; last_jump = None } in
    rw (c.push_reserved.ensures.items ∙ ap (λ (x : List Open). x ++ label ∷ []) c.in_ok-reserve.ensures.items) (kept-push _ _ _ c.self.invariant.0 (c.requires.low, tt), c.self.invariant.1)

pub returns-clause-ok : goal.returns-clause-ok
returns-clause-ok c = λ w l.
    let js = c.self.inside.jumps.items in
    let old = c.args.buffer.now in
    let test = c.in_ok-test.test in
    let ops : List Op = load_operand w t0 (c.args.height - 1) ++ (Branch Bne t0 x0 (forward 12) ∷ []) in
    let mid = old ++ map word_of ops in
    let place : length mid ≡ length old + 4 = length-append old (map word_of ops) in
    let at : test ≡ length old + 4 = omega (arith, c.in_ok-test.ensures, c.place_in.ensures.is) in
    let label : Open = record { base = c.args.base; takes = c.args.values; start = None; test = Some test; last_jump = None } in
    let opened =
    ap (pending_in js) (c.push_reserved.ensures.items ∙ ap (λ (x : List Open). x ++ label ∷ []) c.in_ok-reserve.ensures.items)
    ∙ pending-push js c.self.inside.labels.items c.args.self.now c.args.base c.args.values None (Some test) c.self.view_is in
    opens-test w c.args.self.now (pending_in js c.push_reserved.new.self.items) old mid c.append_test.new.buffer c.args.base c.args.values c.args.height test c.requires.held refl
    (at ∙ sym place)
    (c.in_ok-append_test.ensures.ok w l ∙ sym (append_assoc old (map word_of ops) (map word_of (far (distance (length old + 4) (length old + 4)))))
    ∙ ap (λ (n : ℕ). mid ++ map word_of (far (distance n (length old + 4)))) (sym place)
    ∙ ap (λ (n : ℕ). mid ++ map word_of (far (distance (length mid) n))) (sym at))
    opened
