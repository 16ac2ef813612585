-- Bytes of a module and of its bodies, each below 256.
use Rattle.std.proofs.Common.{ℕ, ◌<◌, List, [], ◌∷◌, length, drop, subst}
use Rattle.std.proofs.lemmas.List.Elements.{All-head, All-tail, All-take, All-drop}
use Rattle.wasm_defs.proofs.NumberLaws as numbers
use Rattle.wasm_defs.specs.Faults.{bodies_of}
use Rattle.wasm_defs.specs.Outside.{Body, Part, Section, Listed, Coded, module_read}
use Rattle.wasm_laws.specs.Order.{AreCutFrom}
use Rattle.wasm_laws.specs.Sections.{AreBytes}
use Rattle.wasm_laws.proofs.Cuts.{parts_are_cut}

pub each_byte : (bytes : List ℕ) → AreBytes bytes → numbers.AreBytes bytes
each_byte [] h = tt
each_byte (b ∷ bytes) h = (All-head (λ b. b < 256) b bytes h, each_byte bytes (All-tail (λ b. b < 256) b bytes h))

abbrev pub HaveBytes : List Body → Type 0
HaveBytes [] = Unit {0}
HaveBytes (b ∷ bodies) = AreBytes b.bytes × HaveBytes bodies

cut_have_bytes : (bytes : List ℕ) (parts : List Part) → AreBytes bytes → AreCutFrom bytes parts → HaveBytes (bodies_of parts)
cut_have_bytes bytes [] fits h = tt
cut_have_bytes bytes (Section at id ∷ parts) fits h = cut_have_bytes bytes parts fits h.1
cut_have_bytes bytes (Listed x ∷ parts) fits h = cut_have_bytes bytes parts fits h
cut_have_bytes bytes (Coded b ∷ parts) fits h =
    let own = All-take (λ b. b < 256) (length b.bytes) (drop b.first bytes) (All-drop (λ b. b < 256) b.first bytes fits) in
    (subst AreBytes h.0 own, cut_have_bytes bytes parts fits h.1)

-- the bodies of a module of bytes have bytes
pub bodies_have_bytes : (bytes : List ℕ) → AreBytes bytes → HaveBytes (bodies_of (module_read bytes).parts)
bodies_have_bytes bytes fits = cut_have_bytes bytes (module_read bytes).parts fits (parts_are_cut bytes)
