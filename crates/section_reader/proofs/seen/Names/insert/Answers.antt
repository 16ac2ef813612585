use Rattle.std.proofs.Common.{ℕ, List, ap, ◌∙◌}
use Rattle.std.specs.FinMap as map
use Rattle.section_reader.specs.ByText.{by_text}
use Rattle.section_reader.proofs.NameMaps.{inserted, text_cmp}
use Rattle.section_reader.proofs.seen.Names.insert.Goals as goal

pub returns-clause-ok : goal.returns-clause-ok
returns-clause-ok c =
    let es = c.self.inside.offsets.entries in
    ap (λ es. map.from_entries {R = text_cmp} (by_text es)) c.in_ok-insert.ensures.entries ∙ inserted c.in_ok-name.name c.args.offset es ∙ ap (λ (t : List ℕ). map.insert (map.from_entries {R = text_cmp} (by_text es)) t c.args.offset) c.in_ok-name.ensures.items ∙ ap (λ (m : map.FinMap text_cmp ℕ). map.insert m c.args.name.now c.args.offset) c.self.view_is
