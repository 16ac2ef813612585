-- The points of a body: whether they are reachable, and how many operands are there.
use Rattle.std.specs.Prelude.{ℕ, ◌+◌, ◌-◌, List, [], ◌∷◌, length, max, Option, None, Some}
use Rattle.wasm_defs.specs.declared.types.ValType.TheVariants.{I32}
use Rattle.wasm_defs.specs.declared.token.BlockType.{BlockType}
use Rattle.wasm_defs.specs.Trees.{Sort, Part, Seq, Nothing, Simple, Block, Loop, If, Else}
use Rattle.wasm_defs.specs.Typing.{Signature, Context, inside, Rule, Untyped, Fixed, Stops, Discards, Selects, rule_of, block_type}

-- the number of operands, the enclosing blocks' too, where the point is reachable
abbrev pub Place : Type 0
Place = Option ℕ

-- so many operands are taken, and so many left in their stead
abbrev pub moved : ℕ → ℕ → Place → Place
moved taken left None = None
moved taken left (Some height) = Some (height - taken + left)

-- what follows `unreachable`, `br`, `br_table` and `return` isn't reachable
abbrev pub after_rule : Rule → Place → Place
after_rule Untyped place = None
after_rule (Fixed params results) place = moved (length params) (length results) place
after_rule (Stops params) place = None
after_rule Discards place = moved 1 0 place
after_rule Selects place = moved 3 1 place

abbrev pub or_empty : Option Signature → Signature
or_empty None = record { params = []; results = [] }
or_empty (Some s) = s

abbrev pub shape : Context → BlockType → Signature
shape c type = or_empty (block_type c type)

-- the point after a block: it is reachable where the block is
abbrev pub after_block : Signature → Place → Place
after_block s place = moved (length s.params) (length s.results) place

abbrev pub after_if : Signature → Place → Place
after_if s place = moved (length (I32 ∷ s.params)) (length s.results) place

-- the point at the end of a sequence that begins at a point
abbrev pub end_of : Context → Seq → Place → Place
end_of c Nothing place = place
end_of c (Simple p rest) place = end_of c rest (after_rule (rule_of c p) place)
end_of c (Block type body rest) place = end_of c rest (after_block (shape c type) place)
end_of c (Loop type body rest) place = end_of c rest (after_block (shape c type) place)
end_of c (If type body other rest) place = end_of c rest (after_if (shape c type) place)

-- the points before a sequence's tokens, and after a branch's, and then others
abbrev pub places : {sort : Sort} → Context → Part sort → Place → List Place → List Place
places c Nothing place after = after
places c (Simple p rest) place after = place ∷ places c rest (after_rule (rule_of c p) place) after
places c (Block type body rest) place after =
    let s = shape c type in
    let within = inside c s.results in
    place ∷ places within body place (end_of within body place ∷ places c rest (after_block s place) after)
places c (Loop type body rest) place after =
    let s = shape c type in
    let within = inside c s.params in
    place ∷ places within body place (end_of within body place ∷ places c rest (after_block s place) after)
places c (If type body other rest) place after =
    let s = shape c type in
    let within = inside c s.results in
    let first = moved 1 0 place in
    place ∷ places within body first (end_of within body first ∷ places within other first (places c rest (after_if s place) after))
places c (Else other) place after = places c other place (end_of c other place ∷ after)

-- the points before a body's tokens, its own `end` among them
abbrev pub places_of : Context → Seq → List Place
places_of c tree =
    let within = inside c c.results in
    places within tree (Some 0) (end_of within tree (Some 0) ∷ [])

abbrev pub higher : Place → ℕ → ℕ
higher None most = most
higher (Some height) most = max height most

-- the greatest reachable height
abbrev pub greatest : List Place → ℕ
greatest [] = 0
greatest (place ∷ places) = higher place (greatest places)
