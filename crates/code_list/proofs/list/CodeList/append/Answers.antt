use Rattle.std.proofs.Common.{◌≡◌, ◌∙◌, ◌++◌, ◌∷◌, [], ℕ, List, length, refl, ap, arith, length-append}
use Rattle.rv_isa.specs.declared.compiled.Code.{Code}
use Rattle.rv_isa.specs.declared.compiled.Relocation.{Relocation}
use Rattle.rv_isa.specs.declared.compiled.TrapSite.{TrapSite}
use Rattle.code_list.specs.declared.list.CodeEnd.{CodeEnd}
use Rattle.code_list.specs.CodeLists.{codes_from, words_of, AreEnds}
use Rattle.code_list.proofs.Pushed.{one_more}
use Rattle.code_list.proofs.list.CodeList.append.Goals as goal
use Rattle.code_list.proofs.list.CodeList.append.Goals.{In_ok-push}

abbrev code_of : In_ok-push → Code
code_of c = record { words = words_of c.args.words; relocations = c.args.calls.now; traps = c.args.sites.now; need = c.args.need }

-- the codes that there are then, and their ends
more : (c : In_ok-push) → (codes_from c.append_words.new.text c.extend_from_slice.new.self.items c.extend_from_slice-2.new.self.items c.self.inside.begin c.push.new.self.items ≡ c.args.self.now ++ code_of c ∷ [])
    × AreEnds (length c.append_words.new.text) (length c.extend_from_slice.new.self.items) (length c.extend_from_slice-2.new.self.items) c.self.inside.begin c.push.new.self.items
more c =
    let i = c.self.inside in
    let last : CodeEnd = record { words = c.len.result; calls = c.len-2.result; sites = c.len-3.result; need = c.args.need } in
    one_more i.text i.calls.items i.sites.items (code_of c) last
    (omega (arith, c.len.ensures, ap (λ (l : List ℕ). length l) c.in_ok-append_words.ensures.ok, length-append i.text (words_of c.args.words)))
    (omega (arith, c.len-2.ensures, c.in_ok-extend_from_slice.ensures.len, c.in_ok-reserve-2.ensures.len, i.calls.ok.0))
    (omega (arith, c.len-3.ensures, c.in_ok-extend_from_slice-2.ensures.len, c.in_ok-reserve-3.ensures.len, i.sites.ok.0)) refl
    i.begin i.ends.items c.args.self.now c.self.view_is c.self.invariant _ _ _ _
    c.in_ok-append_words.ensures.ok
    (c.in_ok-extend_from_slice.ensures.items ∙ ap (λ (l : List Relocation). l ++ c.args.calls.now) c.in_ok-reserve-2.ensures.items)
    (c.in_ok-extend_from_slice-2.ensures.items ∙ ap (λ (l : List TrapSite). l ++ c.args.sites.now) c.in_ok-reserve-3.ensures.items)
    (c.in_ok-push.ensures.items ∙ ap (λ (l : List CodeEnd). l ++ last ∷ []) c.in_ok-reserve.ensures.items)

pub invariant_of-self-2 : goal.invariant_of-self-2
invariant_of-self-2 c = (more (goal.at.invariant_of-self-2 c).In_ok-push).1

pub returns-clause-ok : goal.returns-clause-ok
returns-clause-ok c = (more (goal.at.returns-clause-ok c).In_ok-push).0
