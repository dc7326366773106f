use Rattle.std.proofs.Common.{true, ◌<◌, ◌≤◌, ◌*◌, ◌-◌, [], ◌∷◌, ◌++◌, ap, refl, subst, sym, ◌∙◌, arith}
use Rattle.prem_machine.proofs.Prelude.{Followed, IsPlant, Task}
use Rattle.prem_machine.proofs.Following.{followed_more, followed_none, followed_room, followed_same, some_slots, told_more, told_none, told_same}
use Rattle.prem_machine.proofs.hits.following.follow_told.Goals as goal

pub instructions-init : goal.instructions-init
instructions-init g c =
    let x = c.args.cache.now in (
      followed_none c.args.mem.now x c.args.core.now c.args.outputs.now c.args.most 0
          (some_slots x.plant (subst IsPlant c.plant-plant.ensures.same c.plant-plant.ensures.range)),
      λ is_told. told_none x.plant c.args.mem.now _ c.args.told.now.items,
    )

pub hit_settled-requires-clause-plant : goal.hit_settled-requires-clause-plant
hit_settled-requires-clause-plant g c = c.plant-plant.ensures.same ∙ sym c.instructions.invariant.0.plant

pub hit_settled-requires-clause-room : goal.hit_settled-requires-clause-room
hit_settled-requires-clause-room g c =
    let l = c.instructions in
    followed_room c.args.mem.now c.args.cache.now c.args.core.now c.args.outputs.now c.args.most l.mem l.cache l.core l.outputs l.near l.sum.time l.sum.hits l.sum.stores l.invariant.0
    (omega (arith, c.instructions-test.true)) c.requires.room

pub instructions-preserved-then-hit_settled : goal.instructions-preserved-then-hit_settled
instructions-preserved-then-hit_settled g c =
    let l = c.instructions in
    let new = c.hit_settled.new in
    let e = c.hit_settled.ensures in (
      followed_more c.args.mem.now c.args.cache.now c.args.core.now c.args.outputs.now c.args.most l.mem l.cache l.core l.outputs l.near l.sum.time l.sum.hits l.sum.stores
          l.mem new.cache new.core new.outputs new.near new.sum.time new.sum.hits new.sum.stores l.invariant.0
          (omega (arith, c.instructions-test.true)) (e.step c.if-hit_settled.true) refl e.plant e.room e.near,
      λ is_told. told_more c.args.mem.now c.args.cache.now c.args.core.now c.args.outputs.now c.args.most l.mem l.cache l.core l.outputs l.near l.sum new.cache new.core new.outputs new.sum
          c.args.told.now.items l.told.items c.tell.new.told.items l.invariant.0 (l.invariant.1 is_told) (e.step c.if-hit_settled.true)
          (c.tell.ensures refl ∙ ap (λ x. l.told.items ++ x ∷ []) c.hit_at.ensures
          ∙ ap (λ k. l.told.items ++ record { pc = k; cycles = new.sum.time - l.sum.time; misses = 0; backs = 0 } ∷ []) c.pc-pc.ensures.same),
    )

pub hit_unsettled-requires-clause-room : goal.hit_unsettled-requires-clause-room
hit_unsettled-requires-clause-room g c =
    let l = c.instructions in
    let new = c.hit_settled.new in
    let e = c.hit_settled.ensures in
    let same = e.none c.if-hit_settled.false in
    let f = followed_same c.args.mem.now c.args.cache.now c.args.core.now c.args.outputs.now c.args.most l.mem l.cache l.core l.outputs l.near l.sum
    new.cache new.core new.outputs new.near new.sum l.invariant.0 same e.near in
    let le : new.sum.time ≤ c.args.most = subst (λ (x : Followed). x.time ≤ c.args.most) (sym same.1.1.1) c.instructions-test.true in
    followed_room c.args.mem.now c.args.cache.now c.args.core.now c.args.outputs.now c.args.most l.mem new.cache new.core new.outputs new.near new.sum.time new.sum.hits new.sum.stores f
    le c.requires.room

pub instructions-preserved : goal.instructions-preserved
instructions-preserved g c =
    let l = c.instructions in
    let new = c.hit_settled.new in
    let e = c.hit_settled.ensures in
    let same = e.none c.if-hit_settled.false in
    let f = followed_same c.args.mem.now c.args.cache.now c.args.core.now c.args.outputs.now c.args.most l.mem l.cache l.core l.outputs l.near l.sum
    new.cache new.core new.outputs new.near new.sum l.invariant.0 same e.near in
    let le : new.sum.time ≤ c.args.most = subst (λ (x : Followed). x.time ≤ c.args.most) (sym same.1.1.1) c.instructions-test.true in
    let behind = c.hit_unsettled.new in
    let d = c.hit_unsettled.ensures in
    let near : new.near < new.cache.plant.sets * new.cache.plant.«ways» = f.near_is in
    let so_far = told_same true c.args.mem.now c.args.cache.now c.args.core.now c.args.outputs.now l.cache l.core l.outputs l.sum new.cache new.core new.outputs new.sum
    c.args.told.now.items l.told.items l.invariant.1 same in (
      followed_more c.args.mem.now c.args.cache.now c.args.core.now c.args.outputs.now c.args.most l.mem new.cache new.core new.outputs new.near new.sum.time new.sum.hits new.sum.stores
          behind.mem behind.cache behind.core behind.outputs new.near behind.sum.time behind.sum.hits behind.sum.stores f
          le (d.step c.if-not-hit_unsettled.false) d.memory d.plant d.room near,
      λ is_told. told_more c.args.mem.now c.args.cache.now c.args.core.now c.args.outputs.now c.args.most l.mem new.cache new.core new.outputs new.near new.sum behind.cache behind.core behind.outputs
          behind.sum c.args.told.now.items l.told.items c.tell-in-instructions.new.told.items f (so_far is_told) (d.step c.if-not-hit_unsettled.false)
          (c.tell-in-instructions.ensures refl ∙ ap (λ x. l.told.items ++ x ∷ []) c.hit_at-in-instructions.ensures
          ∙ ap (λ k. l.told.items ++ record { pc = k; cycles = behind.sum.time - l.sum.time; misses = 0; backs = 0 } ∷ []) c.pc-pc.ensures.same
          ∙ ap (λ (k : Task). l.told.items ++ record { pc = k.pc; cycles = behind.sum.time - l.sum.time; misses = 0; backs = 0 } ∷ []) (sym same.0) ∙ ap (λ (k : Followed). l.told.items ++ record { pc = new.core.pc; cycles = behind.sum.time - k.time; misses = 0; backs = 0 } ∷ []) (sym same.1.1.1)),
    )

pub returns-else-has_room-clause-told : goal.returns-else-has_room-clause-told
returns-else-has_room-clause-told g c = c.instructions.invariant.1 refl

pub returns-after-instructions-clause-told : goal.returns-after-instructions-clause-told
returns-after-instructions-clause-told g c = c.instructions.invariant.1 refl

pub returns-then-not-hit_unsettled-clause-told : goal.returns-then-not-hit_unsettled-clause-told
returns-then-not-hit_unsettled-clause-told g c =
    let l = c.instructions in
    let new = c.hit_settled.new in
    let behind = c.hit_unsettled.new in
    told_same true c.args.mem.now c.args.cache.now c.args.core.now c.args.outputs.now new.cache new.core new.outputs new.sum behind.cache behind.core behind.outputs behind.sum
    c.args.told.now.items l.told.items
    (told_same true c.args.mem.now c.args.cache.now c.args.core.now c.args.outputs.now l.cache l.core l.outputs l.sum new.cache new.core new.outputs new.sum
    c.args.told.now.items l.told.items l.invariant.1 (c.hit_settled.ensures.none c.if-hit_settled.false))
    (c.hit_unsettled.ensures.none c.if-not-hit_unsettled.true) refl
