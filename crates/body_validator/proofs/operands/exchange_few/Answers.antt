use Rattle.std.proofs.Common.{◌≡◌, ℕ, List, ◌-◌, ◌++◌, length, reverse, take, drop, is_some, Some, true, ap, ◌∙◌, sym, arith}
use Rattle.std.proofs.lemmas.List.{take_rest}
use Rattle.wasm_defs.specs.Typing.{Types}
use Rattle.body_validator.specs.Checking.{Operand, known, take_all}
use Rattle.body_validator.specs.Stacks.{own_of}
use Rattle.body_validator.specs.Exchange.{few_types, given_types}
use Rattle.body_validator.proofs.Flat.{put_own, one_reversed, exchanged_all}
use Rattle.body_validator.proofs.operands.exchange_few.Goals as goal

pub returns-clause-own : goal.returns-clause-own
returns-clause-own c = λ unknown.
    let base = c.args.base in
    let params = few_types c.args.taken in
    let given = given_types c.args.given in
    let own = own_of c.args.operands.now.items base in
    let items = c.deref.result.now in
    let part : drop base c.args.operands.now.items ≡ take (length items - base) (drop base items) = ap (drop base) (sym c.deref.ensures.value) ∙ sym (take_rest items base) in
    let found : is_some (take_all unknown params own) ≡ true =
    ap (λ (x : List Operand). is_some (take_all unknown params (reverse x))) part ∙ sym (c.are_topmost.ensures unknown) ∙ c.if-not-are_topmost.false in
    let left : own_of c.remove.new.operands.items base ≡ drop (length params) own =
    c.remove.ensures.own ∙ ap (λ (n : ℕ). drop n (own_of c.make_room_after.new.operands.items base)) c.count_of_few-count.ensures
    ∙ ap (λ (x : List Operand). drop (length params) (own_of x base)) c.make_room_after.ensures.items in
    let laid = ap (λ (x : List Operand). own_of x base) c.put_maybe.ensures
    ∙ put_own c.remove.new.operands.items given base (omega (arith, c.remove.new.operands.ok.0))
    ∙ ap (λ (ts : Types). known ts ++ own_of c.remove.new.operands.items base) (one_reversed c.args.given)
    ∙ ap (λ (x : List Operand). known given ++ x) left in
    exchanged_all unknown params given own found ∙ ap (λ (x : List Operand). Some x) (sym laid)
