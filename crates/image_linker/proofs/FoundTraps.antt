-- The traps among a function's instruction words, joined from those of its instructions.
use Rattle.std.proofs.Common.{◌≡◌, ℕ, zero, suc, ◌+◌, ◌-◌, Bool, true, false, List, [], ◌∷◌, ◌++◌, map, length, Some, None, refl, sym, ap, ◌∙◌, arith}
use Rattle.std.specs.Prelude.{◌&&◌, if◌then◌else◌}
use Rattle.std.proofs.lemmas.List.{map-append}
use Rattle.rv_isa.specs.declared.compiled.TrapSite.{TrapSite}
use Rattle.rv_isa.specs.declared.operations.Op.{Op}
use Rattle.rv_isa.specs.declared.operations.Op.TheVariants.{Jalr}
use Rattle.wasm_defs.specs.declared.types.ValType.TheVariants.{I32, I64}
use Rattle.wasm_defs.specs.declared.operation.Operation.{Operation}
use Rattle.wasm_defs.specs.declared.token.BulkOp.TheVariants.{Fill, Copy, Init}
use Rattle.wasm_defs.specs.declared.token.Plain.{Plain}
use Rattle.wasm_defs.specs.declared.token.Plain.TheVariants.{Br, BrIf, BrTable, Return, Bulk, Const, Numeric}
use Rattle.wasm_defs.specs.Configurations.{Origin}
use Rattle.wasm_defs.specs.Trees.{Sort, Part, Seq, Nothing, Simple, Block, Loop, If, Else, tokens_in}
use Rattle.wasm_defs.specs.Typing.{Types, Context, inside, rule_of}
use Rattle.wasm_defs.specs.Places.{Place, after_rule, shape, after_block, after_if, end_of}
use Rattle.wasm_defs.proofs.EachOperation.{each_same}
use Rattle.frame_layout.specs.declared.layout.Layout.{Layout}
use Rattle.frame_layout.specs.Macros.{x0, ra, distance, far}
use Rattle.frame_layout.specs.Templates.{Declarations, Label, EmitContext, label_at, last_label, move_words, jump_words, unless_words, jump_if_words, jumps, table_front, jump_table_words, operate_words, declarations, words, zero_locals, prologue, result_words, epilogue, import_stub, exit_stub}
use Rattle.frame_layout.specs.Functions.{label, over, over_from, size, code, test_words, Trap, trap_at, traps_of, site_of, traps, body_place, body_size, body_code, function_code, body_traps, sites_of}
use Rattle.frame_layout.specs.Traps.{is_number, is_call, found, trap_places, room_trap}
use Rattle.frame_layout.proofs.TrapWords.{traps_are_found}
use Rattle.frame_layout.proofs.Sizes.{taken_by, words_size, over_size, code_size}

-- whether the last of some operations gives a7 the number of traps, or else what was before them
abbrev after : Bool → List Op → Bool
after asks [] = asks
after asks (op ∷ ops) = after (is_number op) ops

-- the traps among these operations, whose first one is at an index, are at these; and they end with no request
pub record Finds (here : ℕ) (ops : List Op) (places : List ℕ) : Type 0 where
  pub found_is : found false here ops ≡ places
  pub ends : after false ops ≡ false

-- ---- one after the other

after_both : (asks : Bool) (xs ys : List Op) → after asks (xs ++ ys) ≡ after (after asks xs) ys
after_both asks [] ys = refl
after_both asks (x ∷ xs) ys = after_both (is_number x) xs ys

one_found : (b : Bool) (here : ℕ) (more more' rest : List ℕ) → more ≡ more' ++ rest
    → (if b then here ∷ more else more) ≡ (if b then here ∷ more' else more') ++ rest
one_found true here more more' rest e = ap (λ (l : List ℕ). here ∷ l) e
one_found false here more more' rest e = e

found_both : (asks : Bool) (here there : ℕ) (xs ys : List Op) → here + length xs ≡ there
    → found asks here (xs ++ ys) ≡ found asks here xs ++ found (after asks xs) there ys
found_both asks here there [] ys e = let k : here ≡ there = omega (arith, e) in ap (λ (n : ℕ). found asks n ys) k
found_both asks here there (x ∷ xs) ys e =
    one_found (asks && is_call x) here (found (is_number x) (here + 1) (xs ++ ys)) (found (is_number x) (here + 1) xs) (found (after (is_number x) xs) there ys)
    (found_both (is_number x) (here + 1) there xs ys (omega (arith, e)))

pub both_found : (here there : ℕ) (xs ys : List Op) (ps qs : List ℕ) → here + length xs ≡ there → Finds here xs ps → Finds there ys qs
    → Finds here (xs ++ ys) (ps ++ qs)
both_found here there xs ys ps qs e f g =
    let ended : after false (xs ++ ys) ≡ after false ys = after_both false xs ys ∙ ap (λ (b : Bool). after b ys) f.ends in
    let second : found (after false xs) there ys ≡ found false there ys = ap (λ (b : Bool). found b there ys) f.ends in
    record {
      found_is = found_both false here there xs ys e ∙ ap (λ (l : List ℕ). l ++ found (after false xs) there ys) f.found_is ∙ ap (λ (l : List ℕ). ps ++ l) (second ∙ g.found_is);
      ends = ended ∙ g.ends;
    }

-- ---- from another index on

one_moved : (b : Bool) (n here : ℕ) (more more' : List ℕ) → more' ≡ map (λ k. n + k) more
    → (if b then (n + here) ∷ more' else more') ≡ map (λ k. n + k) (if b then here ∷ more else more)
one_moved true n here more more' e = ap (λ (l : List ℕ). (n + here) ∷ l) e
one_moved false n here more more' e = e

found_moved : (asks : Bool) (n here there : ℕ) (ops : List Op) → there ≡ n + here → found asks there ops ≡ map (λ k. n + k) (found asks here ops)
found_moved asks n here there [] e = refl
found_moved asks n here there (op ∷ ops) e =
    ap (λ (k : ℕ). if asks && is_call op then k ∷ found (is_number op) (there + 1) ops else found (is_number op) (there + 1) ops) e
    ∙ one_moved (asks && is_call op) n here (found (is_number op) (here + 1) ops) (found (is_number op) (there + 1) ops) (found_moved (is_number op) n (here + 1) (there + 1) ops (omega (arith, e)))

pub moved : (n : ℕ) (ops : List Op) (ps : List ℕ) → Finds 0 ops ps → Finds n ops (map (λ k. n + k) ps)
moved n ops ps f = record {
  found_is = found_moved false n 0 n ops (omega arith) ∙ ap (λ (l : List ℕ). map (λ k. n + k) l) f.found_is;
  ends = f.ends;
}

-- ---- instructions

ends_so : (asks : Bool) (xs ys : List Op) → ((b : Bool) → after b ys ≡ false) → after asks (xs ++ ys) ≡ false
ends_so asks xs ys e = after_both asks xs ys ∙ e (after asks xs)

module _ (w : EmitContext) where
  jump_ends : (height here : ℕ) (l : Label) (asks : Bool) → after asks (jump_words w height here l) ≡ false
  jump_ends height here l asks =
      let moves = move_words w l.takes (height - l.takes) l.base in
      ends_so asks moves (far (distance (here + length moves) l.place)) (λ b. refl)

  -- the jumps of a table, of which there is one
  jumps_end : (height here : ℕ) (ls : List Label) (last : Label) (asks : Bool) → after asks (jumps w height here (ls ++ last ∷ [])) ≡ false
  jumps_end height here [] last asks =
      let first = jump_words w height here last in
      after_both asks first [] ∙ jump_ends height here last asks
  jumps_end height here (l ∷ ls) last asks =
      let first = jump_words w height here l in
      ends_so asks first (jumps w height (here + length first) (ls ++ last ∷ [])) (λ b. jumps_end height (here + length first) ls last b)

  jump_if_ends : (h here : ℕ) (l : Label) → after false (jump_if_words w h here l) ≡ false
  jump_if_ends h here l =
      let skip = unless_words w (here + 3) l.takes in
      let jump = jump_words w (h - 1) (here + 3 + length skip) l in
      ends_so false skip jump (λ b. jump_ends (h - 1) (here + 3 + length skip) l b)

  jump_table_ends : (h here : ℕ) (ls : List Label) (last : Label) → after false (jump_table_words w h here ls last) ≡ false
  jump_table_ends h here ls last =
      let front = table_front w h (length ls) last.takes in
      ends_so false front (jumps w (h - 1) (here + length front) (ls ++ last ∷ [])) (λ b. jumps_end (h - 1) (here + length front) ls last b)

  number : Bool → List ℕ
  number true = 1 ∷ []
  number false = []

  is_none : (b : Bool) → number b ≡ [] → b ≡ false
  unfolding number
  is_none true e = absurd cc
  is_none false e = refl

  operation_ends : (h : ℕ) (op : Operation) → after false (operate_words w h op) ≡ false
  unfolding number
  operation_ends h op = is_none (after false (operate_words w h op)) (each_same (λ (o : Operation). number (after false (operate_words w h o))) (λ o. []) refl op)

  words_end : (d : Declarations) (labels : List Label) (h here : ℕ) (p : Plain) → after false (words w d labels h here p) ≡ false
  words_end d labels h here (Br l) = jump_ends h here (label_at w labels l) false
  words_end d labels h here (BrIf l) = jump_if_ends h here (label_at w labels l)
  words_end d labels h here (BrTable ls l) = jump_table_ends h here (map (label_at w labels) ls) (label_at w labels l)
  words_end d labels h here Return = jump_ends h here (last_label w labels) false
  words_end d labels h here (Const I32 n) = refl
  words_end d labels h here (Const I64 n) = refl
  words_end d labels h here (Numeric op) = operation_ends h op
  words_end d labels h here (Bulk Fill) = refl
  words_end d labels h here (Bulk Copy) = refl
  words_end d labels h here (Bulk (Init x)) = refl
  words_end d labels h here p = refl

  words_found : (d : Declarations) (labels : List Label) (h here n : ℕ) (p : Plain) → Finds n (words w d labels h here p) (map (λ k. n + k) (trap_places p))
  words_found d labels h here n p = moved n (words w d labels h here p) (trap_places p) (record { found_is = traps_are_found w d labels h here p; ends = words_end d labels h here p })

  -- what has no trap, in a sequence
  abbrev Silent : List Op → Type 0
  Silent ops = (n : ℕ) → Finds n ops []

  over_silent : (p : Place) (here there : ℕ) → Silent (over p here there)
  over_silent None here there n = record { found_is = refl; ends = refl }
  over_silent (Some h) here there n = record { found_is = refl; ends = refl }

  test_silent : (h here there : ℕ) → Silent (test_words w h here there)
  test_silent h here there n = record { found_is = refl; ends = refl }

-- ---- sequences, whose labels may lead anywhere

abbrev pub places_of : List Trap → List ℕ
places_of ts = map (λ (t : Trap). t.place) ts

places_moved : (n left : ℕ) (ps : List ℕ) → map (λ k. n + k) ps ≡ places_of (map (trap_at n left) ps)
places_moved n left [] = refl
places_moved n left (p ∷ ps) = ap (λ (l : List ℕ). (n + p) ∷ l) (places_moved n left ps)

found_places : (n : ℕ) (ops : List Op) (ps qs : List ℕ) → ps ≡ qs → Finds n ops ps → Finds n ops qs
found_places n ops ps qs e f = record { found_is = f.found_is ∙ e; ends = f.ends }

both_traps : (here there : ℕ) (xs ys : List Op) (ts us : List Trap) → here + length xs ≡ there → Finds here xs (places_of ts) → Finds there ys (places_of us)
    → Finds here (xs ++ ys) (places_of (ts ++ us))
both_traps here there xs ys ts us e f g =
    found_places here (xs ++ ys) (places_of ts ++ places_of us) (places_of (ts ++ us)) (sym (map-append (λ (t : Trap). t.place) ts us)) (both_found here there xs ys (places_of ts) (places_of us) e f g)

module _ (w : EmitContext) (distance_to : ℕ → ℕ → ℕ) where
  abbrev away : EmitContext
  away = record w { distance_to = distance_to }

  -- a block, whose label takes these and leads to this place, and what is behind it
  block_found : {sort : Sort} (c : Context) (labels others : List Label) → taken_by labels ≡ taken_by others → (takes : Types) (base place end : ℕ) (next : Place) (body : Part sort) (rest : Seq) (h here n behind : ℕ)
      → ((inner counted : List Label) → taken_by inner ≡ taken_by counted → (left : ℕ) → Finds n (code w (inside c takes) inner (Some h) here body) (places_of (traps away (inside c takes) counted (Some h) n left body)))
      → ((there : ℕ) → Finds there (code w c labels next end rest) (places_of (traps away c others next there behind rest)))
      → Finds n (code w (inside c takes) (label base (length takes) place ∷ labels) (Some h) here body ++ code w c labels next end rest)
      (places_of (traps away (inside c takes) (label base (length takes) 0 ∷ others) (Some h) n (1 + tokens_in rest + behind) body ++ traps away c others next (n + size away (inside c takes) (label base (length takes) 0 ∷ others) (Some h) body) behind rest))
  block_found c labels others same takes base place end next body rest h here n behind own later =
      let within = inside c takes in
      let inner = label base (length takes) place ∷ labels in
      let counted = label base (length takes) 0 ∷ others in
      let alike = ap (λ (ns : List ℕ). length takes ∷ ns) same in
      let there = n + size away within counted (Some h) body in
      let left = 1 + tokens_in rest + behind in
      both_traps n there (code w within inner (Some h) here body) (code w c labels next end rest) (traps away within counted (Some h) n left body) (traps away c others next there behind rest)
      (ap (λ (k : ℕ). n + k) (code_size w distance_to within inner counted alike body (Some h) here)) (own inner counted alike left) (later there)

  tree_found : {sort : Sort} (c : Context) (labels others : List Label) → taken_by labels ≡ taken_by others → (tree : Part sort) (place : Place) (here n behind : ℕ)
      → Finds n (code w c labels place here tree) (places_of (traps away c others place n behind tree))
  tree_found c labels others same tree None here n behind = record { found_is = refl; ends = refl }
  tree_found c labels others same Nothing (Some h) here n behind = record { found_is = refl; ends = refl }
  tree_found c labels others same (Simple p rest) (Some h) here n behind =
      let first = words w (declarations c) labels h here p in
      let next = after_rule (rule_of c p) (Some h) in
      let left = tokens_in (Simple p rest) + behind in
      let there = n + length (words away (declarations c) others h 0 p) in
      let own = found_places n first (map (λ k. n + k) (trap_places p)) (places_of (traps_of n left p)) (places_moved n left (trap_places p)) (words_found w (declarations c) labels h here n p) in
      both_traps n there first (code w c labels next (here + length first) rest) (traps_of n left p) (traps away c others next there behind rest)
      (ap (λ (k : ℕ). n + k) (words_size w distance_to (declarations c) labels others same h here p)) own (tree_found c labels others same rest next (here + length first) there behind)
  tree_found c labels others same (Block type body rest) (Some h) here n behind =
      let s = shape c type in
      let base = h - length s.params in
      let end = here + size w (inside c s.results) (label base (length s.results) 0 ∷ labels) (Some h) body in
      block_found c labels others same s.results base end end (after_block s (Some h)) body rest h here n behind
      (λ inner counted alike left. tree_found (inside c s.results) inner counted alike body (Some h) here n left) (λ there. tree_found c labels others same rest (after_block s (Some h)) end there behind)
  tree_found c labels others same (Loop type body rest) (Some h) here n behind =
      let s = shape c type in
      let base = h - length s.params in
      let end = here + size w (inside c s.params) (label base (length s.params) here ∷ labels) (Some h) body in
      block_found c labels others same s.params base here end (after_block s (Some h)) body rest h here n behind
      (λ inner counted alike left. tree_found (inside c s.params) inner counted alike body (Some h) here n left) (λ there. tree_found c labels others same rest (after_block s (Some h)) end there behind)
  tree_found c labels others same (If type body other rest) (Some h) here n behind =
      let s = shape c type in
      let within = inside c s.results in
      let base = h - 1 - length s.params in
      let k = length s.results in
      let before = label base k 0 ∷ labels in
      let first_end = here + 6 + size w within before (Some (h - 1)) body in
      let live = over_from other (end_of within body (Some (h - 1))) in
      let second = first_end + length (over live 0 0) in
      let end = second + size w within before (Some (h - 1)) other in
      let inner = label base k end ∷ labels in
      let counted = label base k 0 ∷ others in
      let alike = ap (λ (ns : List ℕ). k ∷ ns) same in
      let over_at = n + 6 + size away within counted (Some (h - 1)) body in
      let second_at = over_at + length (over live 0 0) in
      let one_left = 1 + tokens_in other + tokens_in rest + behind in
      let one = code w within inner (Some (h - 1)) (here + 6) body in
      let jump = over live first_end end in
      let one_traps = traps away within counted (Some (h - 1)) (n + 6) one_left body in
      both_traps n (n + 6) (test_words w h here second) _ [] _ refl (test_silent w h here second n)
      (both_traps (n + 6) over_at one _ one_traps _ (ap (λ (k : ℕ). n + 6 + k) (code_size w distance_to within inner counted alike body (Some (h - 1)) (here + 6)))
      (tree_found within inner counted alike body (Some (h - 1)) (here + 6) (n + 6) one_left)
      (both_traps over_at second_at jump _ [] _ (ap (λ (k : ℕ). over_at + k) (over_size w distance_to live first_end end)) (over_silent w live first_end end over_at)
      (block_found c labels others same s.results base end end (after_if s (Some h)) other rest (h - 1) second second_at behind
      (λ inner counted alike left. tree_found within inner counted alike other (Some (h - 1)) second second_at left) (λ there. tree_found c labels others same rest (after_if s (Some h)) end there behind))))
  tree_found c labels others same (Else other) (Some h) here n behind = tree_found c labels others same other (Some h) here n behind

-- ---- functions and stubs

zeroing_found : (l : Layout) (locals n : ℕ) → Finds n (zero_locals l locals) []
zeroing_found l zero n = record { found_is = refl; ends = refl }
zeroing_found l (suc locals) n = record { found_is = refl; ends = refl }

prologue_found : (l : Layout) → Finds 0 (prologue l) (room_trap ∷ [])
prologue_found l =
    let zeroing = zeroing_found l l.locals 13 in
    record { found_is = ap (λ (ps : List ℕ). room_trap ∷ ps) zeroing.found_is; ends = zeroing.ends }

results_found : (l : Layout) (results index n : ℕ) → Finds n (result_words l results index ++ Jalr x0 ra 0 ∷ []) []
results_found l zero index n = record { found_is = refl; ends = refl }
results_found l (suc results) index n =
    let more = results_found l results (index + 1) (n + 1 + 1 + 1 + 1 + 1 + 1) in
    record { found_is = more.found_is; ends = more.ends }

epilogue_found : (l : Layout) (results n : ℕ) → Finds n (epilogue l results) []
epilogue_found l results n =
    let more = results_found l results 0 (n + 1 + 1 + 1) in
    record { found_is = more.found_is; ends = more.ends }

sites_places : (o : Origin) (ts : List Trap) → places_of ts ++ [] ≡ map (λ (t : TrapSite). t.place) (map (site_of o) ts)
sites_places o [] = refl
sites_places o (t ∷ ts) = ap (λ (ps : List ℕ). t.place ∷ ps) (sites_places o ts)

pub function_found : (w : EmitContext) (distance_to : ℕ → ℕ → ℕ) (o : Origin) (c : Context) (tree : Seq)
    → Finds 0 (function_code w c tree) (map (λ (t : TrapSite). t.place) (sites_of (away w distance_to) o c tree))
function_found w distance_to o c tree =
    let begin = prologue w.layout in
    let body = body_code w c tree in
    let end = epilogue w.layout (length c.results) in
    let ts = body_traps (away w distance_to) c tree in
    let own = inside c c.results in
    let n = length c.results in
    let labels = label 0 n (body_place w + body_size w c tree) ∷ [] in
    let inner = both_found (body_place w) (body_place w + length body) body end (places_of ts) [] refl (tree_found w distance_to own labels (label 0 n 0 ∷ []) refl tree (Some 0) (body_place w) (body_place w) 1) (epilogue_found w.layout n (body_place w + length body)) in
    let all = both_found 0 (body_place w) begin (body ++ end) (room_trap ∷ []) (places_of ts ++ []) (omega arith) (prologue_found w.layout) inner in
    found_places 0 (function_code w c tree) (room_trap ∷ (places_of ts ++ [])) (map (λ (t : TrapSite). t.place) (sites_of (away w distance_to) o c tree)) (ap (λ (ps : List ℕ). room_trap ∷ ps) (sites_places o ts)) all

pub stub_found : (params import : ℕ) → Finds 0 (import_stub params import) (room_trap ∷ [])
stub_found params import = record { found_is = refl; ends = refl }

pub exit_found : Finds 0 exit_stub []
exit_found = record { found_is = refl; ends = refl }
