use Rattle.std.proofs.Common.{ℕ, ap, ◌∙◌, sym}
use Rattle.std.specs.Prelude.{is_some}
use Rattle.std.specs.FinMap as map
use Rattle.section_reader.proofs.NameMaps.{found, get_found, text_cmp}
use Rattle.section_reader.proofs.seen.Names.contains.Goals as goal

pub returns : goal.returns
returns c =
    let q = c.args.name.now in
    let es = c.self.inside.offsets.entries in
    c.contains_key.ensures ∙ ap is_some (found q es ∙ sym (get_found q es)) ∙ ap (λ (m : map.FinMap text_cmp ℕ). is_some (map.get m q)) c.self.view_is
