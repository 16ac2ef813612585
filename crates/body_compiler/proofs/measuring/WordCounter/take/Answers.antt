use Rattle.std.proofs.Common.{false, sym, subst}
use Rattle.wasm_defs.specs.declared.token.Token.{Token}
use Rattle.body_validator.specs.Checking.{guarded}
use Rattle.body_compiler.specs.Counting.{word_count, after_token, CountsToken}
use Rattle.body_compiler.proofs.measuring.WordCounter.take.Goals as goal

pub returns-in-Else : goal.returns-in-Else
returns-in-Else c = λ w c' height types.
    let old = word_count c.args.self.now.takes.items c.args.self.now.words in
    let new = word_count c.turn.new.self.takes.items c.turn.new.self.words in
    subst (λ (t : Token). CountsToken false c.turn.new.self.too_long new (after_token w c' t (guarded c.args.live height) old)) (sym c.in-Else.is) (c.turn.ensures w c' height)
