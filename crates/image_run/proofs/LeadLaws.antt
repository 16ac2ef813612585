-- Calls that lead a host, one after another.
use Rattle.std.proofs.Common.{List, [], ◌∷◌, ◌++◌, subst}
use Rattle.wasm_defs.specs.Host.{HostCall, Reply}
use Rattle.image_run.specs.Hosts.{Leads}

pub leads_append : (H : Type 0) (Calls : H → HostCall → Reply → H → Type 0) (a b c : H) (cs ds : List HostCall) (rs qs : List Reply) → Leads Calls a cs rs b → Leads Calls b ds qs c → Leads Calls a (cs ++ ds) (rs ++ qs) c
leads_append H Calls a b c [] ds [] qs h g = subst (λ (x : H). Leads Calls x ds qs c) h g
leads_append H Calls a b c [] ds (r ∷ rs) qs h g = absurd h
leads_append H Calls a b c (x ∷ cs) ds [] qs h g = absurd h
leads_append H Calls a b c (x ∷ cs) ds (r ∷ rs) qs h g = (h.0, h.1, leads_append H Calls h.0 b c cs ds rs qs h.2 g)
