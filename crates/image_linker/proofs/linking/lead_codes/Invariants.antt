use Rattle.std.proofs.Common.{◌≡◌, ◌+◌, ℕ, List, length, drop}
use Rattle.rv_isa.specs.declared.compiled.TrapSite.{TrapSite}
use Rattle.code_list.specs.CodeLists.{AreEnds}
use Rattle.image_linker.specs.Linking.{led_text}
use Rattle.image_linker.proofs.linking.lead_codes.Given as goal

-- with the codes that are left, the text comes to the same
abbrev pub invariant-loop-end : goal.invariant-loop-end
invariant-loop-end l = record {
  words : (sites : List TrapSite) → led_text l.starts l.calls sites l.text l.here l.begin (drop l.end-index l.ends) ≡ led_text l.starts l.calls sites l.initial.text l.fn.front l.fn.first l.ends;
  ends : (sites : ℕ) × AreEnds (length l.text) (length l.calls) sites l.begin (drop l.end-index l.ends);
  here : l.here + l.fn.first.words ≡ l.fn.front + l.begin.words;
  length : length l.text ≡ length l.initial.text;
}
