-- What each step on the table says.
use Rattle.std.specs.Prelude.{◌≡◌, ◌≢◌, ℕ, ◌-◌, ◌≤◌}
use Rattle.atomic_table.specs.Table.{Me, Step}
use Rattle.result_cells.specs.declared.view.View.{View}
use Rattle.result_cells.specs.Views.{seen_view, takes, empties, misses}

abbrev Sat : Type 0
Sat = Me (Unit {0}) View

abbrev At : Type 0
At = Step (Unit {0})

-- Of `old` words that are left all but `left` are taken, if as many are left. What is found is at most what the seat has seen
pub record IsTry (v : View) (old left found : ℕ) (w : View) : Type 0 where
  pub hit : found ≡ old → w ≡ takes v (old - left) left
  pub miss : found ≢ old → w ≡ misses v found
  pub fresh : found ≤ v.seen

abbrev pub looked : At → Sat → ℕ → Sat → Type 0
looked st m found n = n ≡ (seen_view found, m.1)

abbrev pub tried : At → Sat → ℕ → Sat → Type 0
tried st m found n = (n.1 ≡ m.1) × IsTry m.0 st.first st.second found n.0

-- what is found is taken, and it is at most what the seat has seen
abbrev pub emptied : At → Sat → ℕ → Sat → Type 0
emptied st m found n = (n ≡ (empties m.0 found, m.1)) × (found ≤ m.0.seen)
