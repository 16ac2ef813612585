use Rattle.std.proofs.Common.{◌≡◌, ◌++◌, map, take}
use Rattle.image_linker.specs.ImageOf.{place_at}
use Rattle.image_linker.proofs.trap_places.put_sites.Given as goal

abbrev pub invariant-loop-site : goal.invariant-loop-site
invariant-loop-site l = l.places.items ≡ l.initial.places.items ++ map (place_at l.here l.function) (take l.site-index l.sites)
