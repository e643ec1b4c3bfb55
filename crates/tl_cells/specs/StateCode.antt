-- The code of a shard's state.
use Rattle.std.specs.Prelude.{ℕ, List, refl}
use Rattle.std.specs.Coded.{Coded, code_by, coded×, coded_ℕ, coded_list}
use Rattle.std.specs.FinMap as map
use Rattle.tl_cells.specs.declared.cell.Cell.{Cell}
use Rattle.tl_cells.specs.Cells.{Cells, ShardState}

abbrev pub cell_code : Coded Cell
cell_code = code_by (ℕ × List ℕ) (coded× coded_ℕ (coded_list coded_ℕ)) (λ c. (c.stamp, c.value)) (λ p. record { stamp = p.0; value = p.1 }) (λ _. refl)

-- a state is stored as its cells, its counters and its stamp
abbrev pub state_code : Coded ShardState
state_code =
    code_by (Cells × (map.FinMap _ ℕ × ℕ)) (coded× (map.code (coded_list coded_ℕ) cell_code) (coded× (map.code (coded_list coded_ℕ) coded_ℕ) coded_ℕ))
    (λ s. (s.cells, (s.counters, s.last))) (λ p. record { cells = p.0; counters = p.1.0; last = p.1.1 }) (λ _. refl)
