use Rattle.std.proofs.Common.{◌≡◌, ◌∙◌, ◌≤◌, ◌++◌, List, ℕ, length, sym, subst, ap}
use Rattle.std.specs.List.{flat_map}
use Rattle.image_format.specs.declared.limits.TheConstants.{IMAGE_BYTES}
use Rattle.image_format.specs.Contents.{Image, IsImage}
use Rattle.image_format.specs.ImageBytes.{ImageBytes, u32, place, spelling}
use Rattle.image_format.specs.Parts.{before_text, before_places, before_passive}
use Rattle.image_format.proofs.Parted.{parted}
use Rattle.image_format.proofs.parts.short_fields.Goals as goal

-- each run of fields was put behind nothing
together : (i : Image) (a b c : List ℕ) → IsImage i → length (spelling i) ≤ IMAGE_BYTES → a ≡ before_text i → b ≡ before_places i → c ≡ before_passive i
    → ImageBytes i ((a ++ flat_map u32 i.text) ++ ((b ++ flat_map place i.places) ++ (c ++ i.passive)))
together i a b c is short p q r =
    let all : (a ++ flat_map u32 i.text) ++ ((b ++ flat_map place i.places) ++ (c ++ i.passive)) ≡ spelling i = rw (p, q, r) (parted i is) in
    record { bounded = is; spelled = all; short = subst (λ (l : List ℕ). length l ≤ IMAGE_BYTES) (sym all) short }

pub returns : goal.returns
returns c =
    together c.args.image.now c.put_before_text.new.out.items c.put_before_places.new.out.items c.put_before_passive.new.out.items c.keeps_bounds.ensures c.requires
    (c.in_ok-put_before_text.ensures ∙ ap (λ (l : List ℕ). l ++ before_text c.args.image.now) c.in_ok-before_text.ensures.items)
    (c.in_ok-put_before_places.ensures ∙ ap (λ (l : List ℕ). l ++ before_places c.args.image.now) c.in_ok-before_places.ensures.items)
    (c.in_ok-put_before_passive.ensures ∙ ap (λ (l : List ℕ). l ++ before_passive c.args.image.now) c.in_ok-before_passive.ensures.items)
