-- What calls give of stages that stand behind each other.
use Rattle.std.specs.Prelude.{Vec}
use Rattle.std.specs.declared.alloc.Global.{Global}
use Rattle.std.proofs.Common.{◌≡◌, ℕ, List, Option, Result, Ok, Err, refl, sym, subst}
use Rattle.prem_io.specs.Files.{Files}
use Rattle.prem_answer.specs.declared.answer.Telling.{Telling}
use Rattle.prem_answer.specs.declared.answer.Answer.{Answer}
use Rattle.prem_answer.specs.declared.answer.Halt.{Halt}
use Rattle.prem_answer.specs.Stages.{Comes, IsGiven, IsReadBy, IsReadAsBy, Reply, Stage, reading_by, reply_of}
use Rattle.prem_answer.proofs.Reading.{ends_there_by, goes_on_by, halt_passes, not_made_by}
use Rattle.prem_exec.specs.Sources.Sources.{Passes}
use Rattle.prem_exec.proofs.SourcesLemmas.Passing.{comes_as}

-- ---- behind readings that give something to whatever comes next

module _ {A : Type 0} (told : Option Files) (readings : (A → Stage Reply) → Stage Reply) (next : A → Stage Reply) where
  pub pass_halts : {X : Type 0} → (view : X → A) (h : Halt) → Comes view (Passes told readings) (Err h) → Comes reply_of (IsGiven told (readings next)) (Err h)
  pass_halts {X} view h comes =
      halt_passes {X = X} {Y = A} {V = Answer} {W = Reply} view reply_of (Passes told readings) (IsGiven told (readings next)) h (λ reply passes. passes next (Err reply) refl) comes

  pub pass_goes : (later : Option Files) (x : A) (r : Result Answer Halt) → later ≡ told → Passes told readings (Ok x) → Comes reply_of (IsGiven later (next x)) r →
      Comes reply_of (IsGiven told (readings next)) r
  pass_goes later x r same passes comes =
      comes_as reply_of (IsGiven later (next x)) (IsGiven told (readings next)) r (λ given goes. passes next given (subst (λ files. IsGiven files (next x) given) same goes)) comes

-- ---- behind a file

module _ {A : Type 0} (how : Telling) (told : Option Files) (limit : ℕ) (name : List ℕ) (make : List ℕ → Result A Reply) where
  -- one that isn't read is made into nothing
  pub read_halts : {V : Type 0} → (view : V → A) (h : Halt) → Comes (λ (v : Vec ℕ Global). v.items) (IsReadBy how told limit name) (Err h) →
      Comes view (IsReadAsBy how told limit name make) (Err h)
  read_halts {V} view h comes =
      halt_passes {X = Vec ℕ Global} {Y = List ℕ} {V = V} {W = A} (λ v. v.items) view (IsReadBy how told limit name) (IsReadAsBy how told limit name make) h
      (λ reply read. not_made_by how told limit name make reply read) comes

  pub file_halts : {X : Type 0} → (next : A → Stage Reply) (view : X → A) (h : Halt) → Comes view (IsReadAsBy how told limit name make) (Err h) →
      Comes reply_of (IsGiven told (reading_by how limit name make next)) (Err h)
  file_halts {X} next view h comes =
      halt_passes {X = X} {Y = A} {V = Answer} {W = Reply} view reply_of (IsReadAsBy how told limit name make) (IsGiven told (reading_by how limit name make next)) h
      (λ reply read. ends_there_by how told limit name make next reply read) comes

  pub file_goes : (next : A → Stage Reply) (later : Option Files) (x : A) (r : Result Answer Halt) → later ≡ told → IsReadAsBy how told limit name make (Ok x) →
      Comes reply_of (IsGiven later (next x)) r → Comes reply_of (IsGiven told (reading_by how limit name make next)) r
  file_goes next later x r same read comes =
      comes_as reply_of (IsGiven later (next x)) (IsGiven told (reading_by how limit name make next)) r
      (λ given goes. goes_on_by how told limit name make next x given read (subst (λ files. IsGiven files (next x) given) same goes)) comes

  -- what it is made into is read on

  pub read_on_halts : {B X Y : Type 0} → (more : A → (B → Stage Reply) → Stage Reply) (view : X → A) (other : Y → B) (h : Halt) → Comes view (IsReadAsBy how told limit name make) (Err h) →
      Comes other (Passes told (λ next. reading_by how limit name make (λ x. more x next))) (Err h)
  read_on_halts {B} {X} {Y} more view other h comes =
      halt_passes {X = X} {Y = A} {V = Y} {W = B} view other (IsReadAsBy how told limit name make) (Passes told (λ next. reading_by how limit name make (λ x. more x next))) h
      (λ reply read next answer leads.
      subst (λ a. IsGiven told (reading_by how limit name make (λ x. more x next)) a) (sym leads) (ends_there_by how told limit name make (λ x. more x next) reply read)) comes

  pub reads_on : {B Y : Type 0} → (more : A → (B → Stage Reply) → Stage Reply) (other : Y → B) (later : Option Files) (x : A) (r : Result Y Halt) → later ≡ told →
      IsReadAsBy how told limit name make (Ok x) → Comes other (Passes later (more x)) r → Comes other (Passes told (λ next. reading_by how limit name make (λ x. more x next))) r
  reads_on more other later x r same read comes =
      comes_as other (Passes later (more x)) (Passes told (λ next. reading_by how limit name make (λ x. more x next))) r
      (λ given passes next answer leads. goes_on_by how told limit name make (λ x. more x next) x answer read (subst (λ files. Passes files (more x) given) same passes next answer leads)) comes
