-- Traps of sequences: what is known of them, and that they depend on no distance, and on no label's index.
use Rattle.std.proofs.Common.{◌≡◌, ℕ, ◌+◌, ◌-◌, ◌⊎◌, ⊎_elim, List, [], ◌∷◌, ◌++◌, length, map, Option, Some, None, refl, sym, ap, ◌∙◌, subst}
use Rattle.wasm_defs.specs.declared.place.Place as told
use Rattle.wasm_defs.specs.declared.token.Plain.{Plain}
use Rattle.wasm_defs.specs.Trees.{Sort, Part, Seq, Nothing, Simple, Block, Loop, If, Else, tokens_in}
use Rattle.wasm_defs.specs.Typing.{Context, rule_of, inside}
use Rattle.wasm_defs.specs.Places.{Place, after_rule, shape, after_block, after_if, end_of}
use Rattle.wasm_defs.specs.Configurations.{Origin, place_left}
use Rattle.frame_layout.specs.Templates.{Label, EmitContext, declarations, words}
use Rattle.frame_layout.specs.Traps.{trap_places}
use Rattle.frame_layout.specs.Functions.{label, over, over_from, size, Trap, trap_at, traps_of, traps, body_traps, body_place}
use Rattle.simulation.specs.Functions.{AreSited}
use Rattle.frame_layout.proofs.Sizes.{taken_by, words_size, code_size}

-- ---- what is known of them

abbrev pub IsIn : ℕ → List ℕ → Type 0
IsIn n [] = ⊥
IsIn n (m ∷ ms) = (n ≡ m) ⊎ IsIn n ms

module _ (trap : ℕ → Option told.Place) (begin : ℕ) (o : Origin) where
  pub sited_first : (ts us : List Trap) → AreSited trap begin o (ts ++ us) → AreSited trap begin o ts
  sited_first [] us x = tt
  sited_first (t ∷ ts) us x = (x.0, sited_first ts us x.1)

  pub sited_rest : (ts us : List Trap) → AreSited trap begin o (ts ++ us) → AreSited trap begin o us
  sited_rest [] us x = x
  sited_rest (t ∷ ts) us x = sited_rest ts us x.1

  sited_at : (here left word : ℕ) (ws : List ℕ) → IsIn word ws → AreSited trap begin o (map (trap_at here left) ws) → trap (begin + (here + word)) ≡ Some (place_left o left)
  sited_at here left word [] among x = absurd among
  sited_at here left word (w ∷ ws) among x =
      ⊎_elim
      (λ (e : word ≡ w). subst (λ (n : ℕ). trap (begin + (here + n)) ≡ Some (place_left o left)) (sym e) x.0)
      (λ (more : IsIn word ws). sited_at here left word ws more x.1)
      among

  -- one of an instruction's
  pub told_of : (here left word : ℕ) (p : Plain) → IsIn word (trap_places p) → AreSited trap begin o (traps_of here left p) → trap (begin + (here + word)) ≡ Some (place_left o left)
  told_of here left word p among x = sited_at here left word (trap_places p) among x

-- ---- what they depend on

joined : (ts us vs ws : List Trap) → ts ≡ us → vs ≡ ws → ts ++ vs ≡ us ++ ws
joined ts us vs ws e f = ap (λ (xs : List Trap). xs ++ vs) e ∙ ap (λ (xs : List Trap). us ++ xs) f

module _ (w : EmitContext) (distance_to : ℕ → ℕ → ℕ) where
  abbrev away : EmitContext
  away = record w { distance_to = distance_to }

  size_alike : {sort : Sort} (c : Context) (labels others : List Label) → taken_by labels ≡ taken_by others → (tree : Part sort) (place : Place) → size w c labels place tree ≡ size away c others place tree
  size_alike c labels others same tree place = sym (code_size w w.distance_to c labels labels refl tree place 0) ∙ code_size w distance_to c labels others same tree place 0

  abbrev AreAlike : {sort : Sort} → Context → Part sort → Type 0
  AreAlike c tree = (labels others : List Label) → taken_by labels ≡ taken_by others → (place : Place) (here behind : ℕ) → traps w c labels place here behind tree ≡ traps away c others place here behind tree

  -- a sequence that has a label of its own, and the one after it
  closed_alike : {sort : Sort} (c within : Context) (labels others : List Label) → taken_by labels ≡ taken_by others → (base takes : ℕ) (body : Part sort) (rest : Seq) (first next : Place) (here held behind : ℕ)
      → AreAlike within body → AreAlike c rest
      → traps w within (label base takes 0 ∷ labels) first here held body ++ traps w c labels next (here + size w within (label base takes 0 ∷ labels) first body) behind rest
      ≡ traps away within (label base takes 0 ∷ others) first here held body ++ traps away c others next (here + size away within (label base takes 0 ∷ others) first body) behind rest
  closed_alike c within labels others same base takes body rest first next here held behind inner_alike after_alike =
      let inner = label base takes 0 ∷ labels in
      let inner' = label base takes 0 ∷ others in
      let alike = ap (λ (ns : List ℕ). takes ∷ ns) same in
      joined (traps w within inner first here held body) (traps away within inner' first here held body)
      (traps w c labels next (here + size w within inner first body) behind rest) (traps away c others next (here + size away within inner' first body) behind rest)
      (inner_alike inner inner' alike first here held)
      (after_alike labels others same next (here + size w within inner first body) behind
      ∙ ap (λ (m : ℕ). traps away c others next (here + m) behind rest) (size_alike within inner inner' alike body first))

  pub traps_alike : {sort : Sort} (c : Context) (labels others : List Label) → taken_by labels ≡ taken_by others → (tree : Part sort) (place : Place) (here behind : ℕ)
      → traps w c labels place here behind tree ≡ traps (record w { distance_to = distance_to }) c others place here behind tree
  traps_alike c labels others same tree None here behind = refl
  traps_alike c labels others same Nothing (Some h) here behind = refl
  traps_alike c labels others same (Simple p rest) (Some h) here behind =
      let next = after_rule (rule_of c p) (Some h) in
      ap (λ (ts : List Trap). traps_of here (tokens_in (Simple p rest) + behind) p ++ ts)
      (traps_alike c labels others same rest next (here + length (words w (declarations c) labels h 0 p)) behind
      ∙ ap (λ (n : ℕ). traps away c others next (here + n) behind rest) (words_size w distance_to (declarations c) labels others same h 0 p))
  traps_alike c labels others same (Block type body rest) (Some h) here behind =
      let s = shape c type in
      closed_alike c (inside c s.results) labels others same (h - length s.params) (length s.results) body rest (Some h) (after_block s (Some h)) here (1 + tokens_in rest + behind) behind
      (λ ls os e. traps_alike (inside c s.results) ls os e body) (λ ls os e. traps_alike c ls os e rest)
  traps_alike c labels others same (Loop type body rest) (Some h) here behind =
      let s = shape c type in
      closed_alike c (inside c s.params) labels others same (h - length s.params) (length s.params) body rest (Some h) (after_block s (Some h)) here (1 + tokens_in rest + behind) behind
      (λ ls os e. traps_alike (inside c s.params) ls os e body) (λ ls os e. traps_alike c ls os e rest)
  traps_alike c labels others same (If type body other rest) (Some h) here behind =
      let s = shape c type in
      let within = inside c s.results in
      let n = length s.results in
      let inner = label (h - 1 - length s.params) n 0 ∷ labels in
      let inner' = label (h - 1 - length s.params) n 0 ∷ others in
      let alike = ap (λ (ns : List ℕ). n ∷ ns) same in
      let next = after_if s (Some h) in
      let jump = length (over (over_from other (end_of within body (Some (h - 1)))) 0 0) in
      let held = 1 + tokens_in other + tokens_in rest + behind in
      let held' = 1 + tokens_in rest + behind in
      let one = size w within inner (Some (h - 1)) body in
      let one' = size away within inner' (Some (h - 1)) body in
      let two = size w within inner (Some (h - 1)) other in
      let two' = size away within inner' (Some (h - 1)) other in
      joined (traps w within inner (Some (h - 1)) (here + 6) held body) (traps away within inner' (Some (h - 1)) (here + 6) held body)
      (traps w within inner (Some (h - 1)) (here + 6 + one + jump) held' other ++ traps w c labels next (here + 6 + one + jump + two) behind rest)
      (traps away within inner' (Some (h - 1)) (here + 6 + one' + jump) held' other ++ traps away c others next (here + 6 + one' + jump + two') behind rest)
      (traps_alike within inner inner' alike body (Some (h - 1)) (here + 6) held)
      (closed_alike c within labels others same (h - 1 - length s.params) n other rest (Some (h - 1)) next (here + 6 + one + jump) held' behind
      (λ ls os e. traps_alike within ls os e other) (λ ls os e. traps_alike c ls os e rest)
      ∙ ap (λ (m : ℕ). traps away within inner' (Some (h - 1)) (here + 6 + m + jump) held' other ++ traps away c others next (here + 6 + m + jump + two') behind rest)
      (size_alike within inner inner' alike body (Some (h - 1))))
  traps_alike c labels others same (Else other) (Some h) here behind = traps_alike c labels others same other (Some h) here behind

  -- those of a function
  pub body_traps_alike : (c : Context) (tree : Seq) → body_traps w c tree ≡ body_traps (record w { distance_to = distance_to }) c tree
  body_traps_alike c tree =
      let n = length c.results in
      traps_alike (inside c c.results) (label 0 n 0 ∷ []) (label 0 n 0 ∷ []) refl tree (Some 0) (body_place w) 1
