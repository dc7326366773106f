-- An image that keeps the rules, and some that do not.
use Rattle.std.specs.Prelude.{codes, slice_get, All}
use Rattle.std.specs.Int.Count.{ones}
use Rattle.std.proofs.Common.{◌≡◌, ℕ, zero, suc, ◌<◌, ◌≤◌, List, [], ◌∷◌, Some, None, map, refl, arith, subst}
use Rattle.prem_plant.specs.declared.plant.Replacement.TheVariants.{Lru}
use Rattle.prem_plant.specs.declared.plant.Target.TheVariants.{Rv32i}
use Rattle.prem_plant.specs.declared.plant.Plant.{Plant}
use Rattle.prem_plant.specs.declared.plant.Replacement.TheVariants.{Lru}
use Rattle.prem_plant.specs.declared.plant.Target.TheVariants.{Rv32i}
use Rattle.prem_plant.specs.Places.{Extent, AreApart, AreDisjoint}
use Rattle.prem_image.specs.declared.image.TaskRecord.{TaskRecord}
use Rattle.prem_image.specs.declared.image.DeviceRecord.{DeviceRecord}
use Rattle.prem_image.specs.Records.{IsTask, IsPlaced, AreDistinct, IsImage, area_of, task_names}

abbrev plant : Plant
plant = record { line = 16; sets = 64; ways = 4; fill = 10; back = 10; switch = 20; memory = 4096; policy = Lru; target = Rv32i }

abbrev task : List ℕ → ℕ → ℕ → TaskRecord
task name entry stack = record { name = name; period = 1000; jobs = 1; entry = entry; stack = stack }

abbrev placed : List ℕ → ℕ → DeviceRecord
placed name area = record { device = record { name = name; queue = 2; cost = 40; lines = 4 }; area = area }

row_areas : map (area_of 16) (placed (codes "dma") 304 ∷ placed (codes "nic") 368 ∷ []) ≡ (304, 368) ∷ (368, 432) ∷ []
row_areas = refl

row_names : task_names (task (codes "a") 0 304 ∷ task (codes "b") 304 608 ∷ []) ≡ codes "a" ∷ codes "b" ∷ []
row_names = refl

-- areas that share a line
row_overlap : AreApart (map (area_of 16) (placed (codes "dma") 304 ∷ placed (codes "nic") 352 ∷ [])) → ⊥
row_overlap h = absurd (let e : 0 ≡ 1 = h.disjoint 0 1 352 (304, 368) (352, 416) refl refl (omega arith, omega arith) (omega arith, omega arith) in omega arith)

-- one name of two tasks
row_twice : AreDistinct (codes "a" ∷ codes "a" ∷ []) → ⊥
row_twice h = absurd (let e : 0 ≡ 1 = h 0 1 (omega arith) (omega arith) refl in omega arith)

row_entry : IsTask 4096 (task (codes "m") 2 304) → ⊥
row_entry h = absurd (let e : 2 ≡ 0 = h.entry_aligned in omega arith)

row_stack : IsTask 4096 (task (codes "m") 0 4104) → ⊥
row_stack h = absurd (let e : 8 ≡ 0 = h.stack_aligned in omega arith)

row_past : IsPlaced 16 4096 (placed (codes "dma") 4048) → ⊥
row_past h = absurd (let e : 4112 ≤ 4096 = h.within in omega arith)

-- ---- an image that keeps all rules

abbrev one_task : List TaskRecord
one_task = task (codes "m") 0 304 ∷ []

abbrev one_device : List DeviceRecord
one_device = placed (codes "dma") 304 ∷ []

row_task : IsTask 4096 (task (codes "m") 0 304)
row_task =
    record {
      name = record { some = omega arith; short = omega arith; each = refl };
      period = (omega arith, omega arith);
      jobs = (omega arith, omega arith);
      entry_aligned = refl;
      entry_within = omega arith;
      stack_aligned = refl;
      stack_within = omega arith;
    }

row_placed : IsPlaced 16 4096 (placed (codes "dma") 304)
row_placed =
    record {
      device = record {
        name = record { some = omega arith; short = omega arith; each = refl };
        queue = (omega arith, omega arith);
        cost = (omega arith, omega arith);
        lines = (omega arith, omega arith);
      };
      aligned = refl;
      within = omega arith;
    }

each_task : All (IsTask 4096) one_task
each_task zero d h = row_task
each_task (suc k) d h = absurd (let x : suc k < 1 = h in omega arith)

each_device : All (IsPlaced 16 4096) one_device
each_device zero d h = row_placed
each_device (suc k) d h = absurd (let x : suc k < 1 = h in omega arith)

forward : (i : ℕ) (p : Extent) → slice_get (map (area_of 16) one_device) i ≡ Some p → p.0 ≤ p.1
forward zero p h = let e : Some (304, 368) ≡ Some p = h in let q : (304, 368) ≡ p = cc in subst (λ (r : Extent). r.0 ≤ r.1) q (omega arith)
forward (suc i) p h = absurd (let e : None ≡ Some p = h in cc)

apart : AreDisjoint (map (area_of 16) one_device)
apart zero zero a p q hp hq x y = refl
apart zero (suc j) a p q hp hq x y = absurd (let e : None ≡ Some q = hq in cc)
apart (suc i) j a p q hp hq x y = absurd (let e : None ≡ Some p = hp in cc)

row_image : IsImage plant one_task one_device []
unfolding ones
row_image =
    record {
      plant = record {
        line = (omega arith, omega arith);
        line_power = refl;
        sets = (omega arith, omega arith);
        sets_power = refl;
        ways = (omega arith, omega arith);
        fill = (omega arith, omega arith);
        back = (omega arith, omega arith);
        switch = omega arith;
        memory = (omega arith, omega arith);
        memory_pages = refl;
      };
      task_count = (omega arith, omega arith);
      device_count = omega arith;
      each_task = each_task;
      task_names = λ i j x y e. let x' : i < 1 = x in let y' : j < 1 = y in omega arith;
      each_device = each_device;
      device_names = λ i j x y e. let x' : i < 1 = x in let y' : j < 1 = y in omega arith;
      apart = record { forward = forward; disjoint = apart };
      within = omega arith;
    }
