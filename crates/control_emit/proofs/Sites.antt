-- The traps of a walk with the offsets of its tokens.
use Rattle.std.proofs.Common.{◌≡◌, ℕ, suc, ◌+◌, ◌-◌, List, [], ◌∷◌, ◌++◌, map, length, Some, None, refl, sym, ap, ◌∙◌, arith, append_assoc, length-append}
use Rattle.std.specs.Prelude.{slice_index}
use Rattle.std.proofs.lemmas.List.{map-append}
use Rattle.rv_isa.specs.declared.compiled.TrapSite.{TrapSite}
use Rattle.wasm_defs.specs.declared.token.Token.{Token}
use Rattle.wasm_defs.specs.declared.token.Token.TheVariants as token
use Rattle.wasm_defs.specs.Configurations.{Origin, offset_of}
use Rattle.wasm_defs.specs.Places.{Place, places_of}
use Rattle.wasm_defs.specs.Typing.{Context}
use Rattle.frame_layout.specs.Templates.{EmitContext}
use Rattle.frame_layout.specs.Functions.{trap_at, site_of}
use Rattle.frame_layout.specs.Traps.{trap_places, site_at}
use Rattle.control_emit.specs.Emits.{FunctionBuilder}
use Rattle.control_emit.specs.Walks.{Walk, token_traps, walk_traps, token_sites, walk_sites, begun, SitesLaw}
use Rattle.control_emit.proofs.Trees.{traps_are_those}

index_behind : (front os : List ℕ) (a : ℕ) → slice_index (front ++ a ∷ os) (length front) ≡ a
index_behind [] os a = refl
index_behind (x ∷ front) os a = index_behind front os a

-- the offset of the first token that is left
offset_is : (o : Origin) (front os : List ℕ) (a left : ℕ) → o.offsets ≡ front ++ a ∷ os → suc (length os) ≡ left → offset_of o left ≡ a
offset_is o front os a left e f =
    let all = length-append front (a ∷ os) in
    let at : length o.offsets - left ≡ length front = omega (arith, ap length e, all, f) in
    ap (λ (l : List ℕ). slice_index l (length o.offsets - left)) e ∙ ap (slice_index (front ++ a ∷ os)) at ∙ index_behind front os a

words_sited : (o : Origin) (here left a : ℕ) (ps : List ℕ) → offset_of o left ≡ a → map (site_at here a) ps ≡ map (site_of o) (map (trap_at here left) ps)
words_sited o here left a [] e = refl
words_sited o here left a (p ∷ ps) e =
    let first : TrapSite → List TrapSite = λ s. s ∷ map (site_at here a) ps in
    ap (λ (n : ℕ). first (record { place = here + p; offset = n })) (sym e)
    ∙ ap (λ (ss : List TrapSite). site_of o (trap_at here left p) ∷ ss) (words_sited o here left a ps e)

token_sited : (o : Origin) (here left a : ℕ) (t : Token) (q : Place) → offset_of o left ≡ a → token_sites t q here a ≡ map (site_of o) (token_traps left t q here)
token_sited o here left a (token.Plain p) None e = refl
token_sited o here left a (token.Plain p) (Some h) e = words_sited o here left a (trap_places p) e
token_sited o here left a (token.Block t) q e = refl
token_sited o here left a p q e = refl

-- after some tokens
walk_sited : (o : Origin) (front os : List ℕ) (w : EmitContext) (c : Context) (ts : List Token) (qs : List Place) (old new : FunctionBuilder) (x : Walk w c ts qs old new) → o.offsets ≡ front ++ os → length os ≡ length ts
    → walk_sites w c ts os qs old new x ≡ map (site_of o) (walk_traps w c ts qs old new x)
walk_sited o front os w c [] qs old new x e f = refl
walk_sited o front [] w c (t ∷ ts) qs old new x e f = absurd (omega (arith, f))
walk_sited o front (a ∷ os) w c (t ∷ ts) [] old new x e f = absurd x
walk_sited o front (a ∷ os) w c (t ∷ ts) (q ∷ qs) old new x e f =
    let here = length old.words in
    let left = length (t ∷ ts) in
    let own = token_traps left t q here in
    let more = walk_traps w c ts qs x.0 new x.2 in
    let rest = walk_sited o (front ++ a ∷ []) os w c ts qs x.0 new x.2 (e ∙ sym (append_assoc front (a ∷ []) os)) (omega (arith, f)) in
    ap (λ (ss : List TrapSite). ss ++ walk_sites w c ts os qs x.0 new x.2) (token_sited o here left a t q (offset_is o front os a left e (omega (arith, f))))
    ∙ ap (λ (ss : List TrapSite). map (site_of o) own ++ ss) rest
    ∙ sym (map-append (site_of o) own more)

pub sites_are_those : SitesLaw
sites_are_those w o c tokens tree front last sites spells count at x =
    let old = begun (length c.results) front in
    let all = walk_traps w c tokens (places_of c tree) old last x.0 in
    sym x.1
    ∙ walk_sited o [] o.offsets w c tokens (places_of c tree) old last x.0 refl count
    ∙ ap (map (site_of o)) (traps_are_those w c tokens tree front last all spells at (x.0, refl))
