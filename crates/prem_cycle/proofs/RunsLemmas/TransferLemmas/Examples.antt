-- A transfer of two cycles by hand.
use Rattle.prem_cycle.proofs.Prelude.{device_cost, GatesState, Turned, first_gates, after_arrival, bus_turn, No, Request, DeviceRecord, codes}
use Rattle.std.specs.Prelude.{◌≡◌, ℕ, [], ◌∷◌, None, Some, refl}

dma : DeviceRecord
dma = record { device = record { name = codes "dma"; queue = 4; cost = 2; lines = 1 }; area = 0 }

costs : (device_cost (dma ∷ []) 0 ∷ device_cost (dma ∷ []) 1 ∷ []) ≡ 2 ∷ 0 ∷ []
unfolding dma
costs = refl

asked : Request
asked = record { cycle = 3; device = 0; line = 0; put = Some 7 }

waiting : GatesState
waiting = after_arrival asked (first_gates (dma.device ∷ []) (0 ∷ []) 16)

abbrev turn : ℕ → GatesState → Turned
turn now s = bus_turn now (record { start = 5; close = 9 }) No s []

-- it starts in cycle 5, and cycle 6 is its last one
ends : (turn 6 (turn 5 waiting).gates).turn.ended ≡ Some (record { device = 0; first = 5; request = asked; value = 7 })
unfolding dma asked waiting
ends = refl

-- nothing starts before the window opens, and nothing that ends behind its close
closed : ((turn 4 waiting).gates.carried ∷ (turn 8 waiting).gates.carried ∷ []) ≡ None ∷ None ∷ []
unfolding dma asked waiting
closed = refl
