-- A text whose codes' calls are led to their functions one after the other, in place.
use Rattle.std.proofs.Common.{◌≡◌, ◌≤◌, ◌<◌, ℕ, ◌+◌, ◌-◌, List, [], ◌∷◌, ◌++◌, take, drop, length, refl, sym, ap, ◌∙◌, subst, arith, append_assoc}
use Rattle.std.specs.Prelude.{slice_index_or}
use Rattle.std.specs.List.{between}
use Rattle.std.proofs.lemmas.List.{append-nil, take_all, drop_at, drop_all, drop_more, drop-drop, length-take-le}
use Rattle.std.proofs.lemmas.List.Edits.{length-between}
use Rattle.rv_isa.specs.declared.compiled.Code.{Code}
use Rattle.rv_isa.specs.declared.compiled.Relocation.{Relocation}
use Rattle.rv_isa.specs.declared.compiled.TrapSite.{TrapSite}
use Rattle.code_list.specs.declared.list.CodeEnd.{CodeEnd}
use Rattle.code_list.specs.CodeLists.{code_between, codes_from, Rises, AreEnds}
use Rattle.code_list.proofs.Ends.{Within, within}
use Rattle.frame_layout.specs.Functions.{with_distances}
use Rattle.image_linker.specs.ImageOf.{distances}
use Rattle.image_linker.specs.Linking.{changed, words_from, led_text}
use Rattle.image_linker.proofs.Changes.{changed_front, changed_behind}
use Rattle.image_linker.proofs.Leading.{length-lead, length-led}

abbrev pub end_at : List CodeEnd → ℕ → CodeEnd
end_at ends i = slice_index_or ends i (record { words = 0; calls = 0; sites = 0; need = 0 })

-- the next end, and those behind it
next_end : (ends : List CodeEnd) (i : ℕ) → i < length ends → drop i ends ≡ end_at ends i ∷ drop (i + 1) ends
next_end ends i lt = drop_more ends i (record { words = 0; calls = 0; sites = 0; need = 0 }) lt

pub record Opened (text relocations traps : ℕ) (begin end : CodeEnd) (left : List CodeEnd) : Type 0 where
  pub rises : Rises begin end
  pub within : Within text relocations traps end
  pub ends : AreEnds text relocations traps end left

pub opened : (words calls sites : ℕ) (begin : CodeEnd) (ends : List CodeEnd) (i : ℕ) → i < length ends → AreEnds words calls sites begin (drop i ends) → Opened words calls sites begin (end_at ends i) (drop (i + 1) ends)
opened words calls sites begin ends i lt h =
    let o = subst (AreEnds words calls sites begin) (next_end ends i lt) h in
    record { rises = o.0; within = within words calls sites (end_at ends i) (drop (i + 1) ends) o.1; ends = o.1 }

-- what is behind an index stays behind a later one
behind : (text next : List ℕ) (from begin : ℕ) → drop from next ≡ drop from text → from ≤ begin → drop begin next ≡ drop begin text
behind text next from begin same le =
    let sum : from + (begin - from) ≡ begin = omega (arith, le) in
    ap (λ (n : ℕ). drop n next) (sym sum) ∙ sym (drop-drop (begin - from) from next) ∙ ap (drop (begin - from)) same ∙ drop-drop (begin - from) from text ∙ ap (λ (n : ℕ). drop n text) sum

module _ (calls : List Relocation) (sites : List TrapSite) where
  abbrev code_of : List ℕ → CodeEnd → CodeEnd → Code
  code_of words begin end = record { words = words; relocations = between begin.calls end.calls calls; traps = between begin.sites end.sites sites; need = end.need }

  -- codes depend on their own words alone
  codes_behind : (text next : List ℕ) (from all most n : ℕ) (begin : CodeEnd) (ends : List CodeEnd) → drop from next ≡ drop from text → from ≤ begin.words → AreEnds all most n begin ends
      → codes_from next calls sites begin ends ≡ codes_from text calls sites begin ends
  codes_behind text next from all most n begin [] same le are = refl
  codes_behind text next from all most n begin (end ∷ ends) same le are =
      ap (λ (l : List ℕ). code_of (take (end.words - begin.words) l) begin end ∷ codes_from next calls sites end ends) (behind text next from begin.words same le)
      ∙ ap (λ (l : List Code). code_between text calls sites begin end ∷ l) (codes_behind text next from all most n end ends same (omega (arith, le, are.0.words)) are.1)

module _ (places : List ℕ) (calls : List Relocation) (text next : List ℕ) (here : ℕ) (begin end : CodeEnd) (rises : begin.words ≤ end.words) (within : end.words ≤ length text) (is : next ≡ changed begin.words end.words (with_distances (distances places here) (between begin.calls end.calls calls)) text) where
  abbrev led : List ℕ → List ℕ
  led code = with_distances (distances places here) (between begin.calls end.calls calls) code

  keeps : length (with_distances (distances places here) (between begin.calls end.calls calls) (between begin.words end.words text)) ≡ length (between begin.words end.words text)
  keeps = length-lead (distances places here) (between begin.calls end.calls calls) (between begin.words end.words text)

  -- the text has as many words
  pub led_length : length next ≡ length text
  led_length = ap length is ∙ length-led begin.words end.words text (distances places here) (between begin.calls end.calls calls) rises within

  -- one code led, and those behind it to be led, are all led
  pub led_more : (sites : List TrapSite) (all most n : ℕ) (ends : List CodeEnd) → AreEnds all most n end ends
      → led_text places calls sites next (here + (end.words - begin.words)) end ends ≡ led_text places calls sites text here begin (end ∷ ends)
  led_more sites all most n ends are =
      let own = between begin.words end.words text in
      let front = take begin.words text ++ led own in
      let taken : take end.words next ≡ front = ap (take end.words) is ∙ changed_front begin.words end.words text rises within led keeps in
      let left : drop end.words next ≡ drop end.words text = ap (drop end.words) is ∙ changed_behind begin.words end.words text rises within led keeps in
      let codes = codes_behind calls sites text next end.words all most n end ends left (omega arith) are in
      let moved : here + (end.words - begin.words) ≡ here + length own = omega (arith, length-between text begin.words end.words within) in
      ap (λ (l : List ℕ). l ++ words_from places (here + (end.words - begin.words)) (codes_from next calls sites end ends)) taken
      ∙ ap (λ (l : List Code). front ++ words_from places (here + (end.words - begin.words)) l) codes
      ∙ ap (λ (k : ℕ). front ++ words_from places k (codes_from text calls sites end ends)) moved
      ∙ append_assoc (take begin.words text) (led own) (words_from places (here + length own) (codes_from text calls sites end ends))

-- and where one is the next of those that are left
pub led_next : (places : List ℕ) (calls : List Relocation) (sites : List TrapSite) (text : List ℕ) (here : ℕ) (begin : CodeEnd) (ends : List CodeEnd) (i : ℕ) → i < length ends
    → led_text places calls sites text here begin (end_at ends i ∷ drop (i + 1) ends) ≡ led_text places calls sites text here begin (drop i ends)
led_next places calls sites text here begin ends i lt = ap (led_text places calls sites text here begin) (sym (next_end ends i lt))

-- where none is left, the text is led
pub led_all : (places : List ℕ) (calls : List Relocation) (sites : List TrapSite) (text : List ℕ) (here most n : ℕ) (begin : CodeEnd) (ends : List CodeEnd) (i : ℕ) → length ends ≤ i
    → AreEnds (length text) most n begin (drop i ends) → text ≡ led_text places calls sites text here begin (drop i ends)
led_all places calls sites text here most n begin ends i over are =
    let none = drop_all i ends over in
    let last = subst (AreEnds (length text) most n begin) none are in
    sym (ap (led_text places calls sites text here begin) none ∙ append-nil (take begin.words text) ∙ take_all begin.words text (omega (arith, last.words)))

-- behind the words before the first code
pub led_behind : (places : List ℕ) (here : ℕ) (text whole : List ℕ) (codes : List Code) (begin : ℕ) → begin ≤ length text → whole ≡ take begin text ++ words_from places here codes → drop begin whole ≡ words_from places here codes
led_behind places here text whole codes begin le is = ap (drop begin) is ∙ drop_at (take begin text) (words_from places here codes) begin (length-take-le begin text le)
