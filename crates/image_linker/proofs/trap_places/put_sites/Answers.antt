use Rattle.std.proofs.Common.{◌≡◌, ℕ, ◌<◌, ◌++◌, ◌∷◌, [], List, length, append_assoc, sym, ap, ◌∙◌}
use Rattle.std.specs.Prelude.{slice_index_or}
use Rattle.std.proofs.lemmas.List.{append-nil, get_or_default}
use Rattle.rv_isa.specs.declared.compiled.TrapSite.{TrapSite}
use Rattle.image_format.specs.declared.image.TrapPlace.{TrapPlace}
use Rattle.image_linker.specs.ImageOf.{place_at}
use Rattle.image_linker.proofs.TrapLoops.{all_at, sites_taken}
use Rattle.image_linker.proofs.trap_places.put_sites.Goals as goal

-- the site at an index of these
abbrev site_in : List TrapSite → ℕ → TrapSite
site_in sites i = slice_index_or sites i (record { place = 0; offset = 0 })

is_there : (sites : List TrapSite) (i : ℕ) → i < length sites → site_in sites i ≡ slice_index_or sites i (site_in sites i)
is_there sites i less = get_or_default sites i (record { place = 0; offset = 0 }) (site_in sites i) less

pub loop-site-init : goal.loop-site-init
loop-site-init c = sym (append-nil c.args.places.now.items)

pub place_at-requires-clause-place : goal.place_at-requires-clause-place
place_at-requires-clause-place c =
    let i = c.loop-site.site-index in
    let sites = c.args.sites.now in
    (all_at sites c.args.here c.args.function i (site_in sites i) c.loop-site-test.true (is_there sites i c.loop-site-test.true) c.requires).offset

pub place_at-requires-clause-offset : goal.place_at-requires-clause-offset
place_at-requires-clause-offset c =
    let i = c.loop-site.site-index in
    let sites = c.args.sites.now in
    (all_at sites c.args.here c.args.function i (site_in sites i) c.loop-site-test.true (is_there sites i c.loop-site-test.true) c.requires).module_offset

pub loop-site-preserved : goal.loop-site-preserved
loop-site-preserved c =
    let here = c.args.here in
    let function = c.args.function in
    let i = c.loop-site.site-index in
    let sites = c.args.sites.now in
    let s = site_in sites i in
    c.in_ok-push.ensures.items
    ∙ ap (λ (p : TrapPlace). c.loop-site.places.items ++ p ∷ []) c.place_at.ensures
    ∙ ap (λ (l : List TrapPlace). l ++ place_at here function s ∷ []) c.loop-site.invariant
    ∙ append_assoc c.args.places.now.items _ (place_at here function s ∷ [])
    ∙ ap (λ (l : List TrapPlace). c.args.places.now.items ++ l) (sym (sites_taken here function sites i s c.loop-site-test.true (is_there sites i c.loop-site-test.true)))
