-- A set of two tasks and a device, computed: it breaks no rule, so all but the runs of its tasks is there. The first task has a marked function, and takes an input in each of its jobs.
use Rattle.std.proofs.Common.{◌≡◌, ℕ, zero, suc, ap, List, [], ◌∷◌, refl, None, arith, length}
use Rattle.prem_sets_sound.proofs.Prelude.{default_is_plant, IsName, AreDistinct, IsDevice, default_plant, Device, first_range_breach, turn_bounds, HasTextValues, HasValues, IsLaidOut}
use Rattle.prem_sets_sound.proofs.Prelude.{limits_at, first_breach, TaskText, TaskSet, broken, coded_in, places_in, placed_in, literal_word, reserved_word, used_word, is_unused}
use Rattle.prem_sets_sound.proofs.Prelude.{longest_mark, tokens_of, lex, step, first_token, All-from_recursion, AllByRecursion, codes}
use Rattle.prem_sets_sound.proofs.ImagePremisesLemmas.Whole.{accepted_sets_are_laid_out, default_places_are_lawful}
use Rattle.prem_text.specs.Lexing.Tokens.{start}

abbrev pub first : TaskText
first = record {
  name = codes "first";
  text =
      codes "int n; PREDICTABLE(2000) REGION(n, 0, 0) void step(void) { n = 5; } void job(void) { int k = 0; k = in(); step(); out(n + k); }";
  period =
      20000;
  jobs = 3;
}

abbrev pub second : TaskText
second = record { name = codes "second"; text = codes "void job(void){ out(2+3); }"; period = 50000; jobs = 1 }

abbrev pub net : Device
net = record { name = codes "net"; queue = 8; cost = 60; lines = 4 }

abbrev pub sample : TaskSet
sample = record { plant = default_plant; devices = net ∷ []; tasks = first ∷ second ∷ [] }

pub sample_breaks_nothing : broken sample ≡ None
unfolding tokens_of lex step start first_token reserved_word used_word is_unused longest_mark literal_word first_breach first_range_breach
sample_breaks_nothing = refl

-- ---- its values

first_name : IsName (codes "first")
first_name = record { some = omega arith; short = omega arith; each = refl }

second_name : IsName (codes "second")
second_name = record { some = omega arith; short = omega arith; each = refl }

net_name : IsName (codes "net")
net_name = record { some = omega arith; short = omega arith; each = refl }

pub net_is : IsDevice net
net_is = record { name = net_name; queue = (omega arith, omega arith); cost = (omega arith, omega arith); lines = (omega arith, omega arith) }

texts_are : AllByRecursion HasTextValues (first ∷ second ∷ [])
texts_are = (
  record { name = first_name; period = (omega arith, omega arith); jobs = (omega arith, omega arith) },
  (record { name = second_name; period = (omega arith, omega arith); jobs = (omega arith, omega arith) }, tt),
)

pub one_name : (x : List ℕ) → AreDistinct (x ∷ [])
one_name x zero zero li lj e = refl
one_name x zero (suc j) li lj e = absurd (omega (arith, lj))
one_name x (suc i) j li lj e = absurd (omega (arith, li))

two_names : AreDistinct (codes "first" ∷ codes "second" ∷ [])
two_names zero zero li lj e = refl
two_names zero (suc zero) li lj e = let long : 5 ≡ 6 = ap length e in absurd (omega (arith, long))
two_names (suc zero) zero li lj e = let long : 6 ≡ 5 = ap length e in absurd (omega (arith, long))
two_names (suc zero) (suc zero) li lj e = refl
two_names (suc (suc i)) j li lj e = absurd (omega (arith, li))
two_names i (suc (suc j)) li lj e = absurd (omega (arith, lj))

pub sample_values : HasValues sample
sample_values = record {
  plant_is = default_is_plant;
  devices_are = record { count = omega arith; each = All-from_recursion IsDevice (net ∷ []) (net_is, tt); names = one_name (codes "net") };
  count = (omega arith, omega arith);
  each = All-from_recursion HasTextValues (first ∷ second ∷ []) texts_are;
  names = two_names;
}

sample_is_laid_out : IsLaidOut default_plant (net ∷ []) (coded_in sample) (places_in sample)
sample_is_laid_out = accepted_sets_are_laid_out sample (places_in sample) sample_values sample_breaks_nothing (default_places_are_lawful sample sample_values sample_breaks_nothing)

-- ---- what its jobs take

first_calls : (limits_at default_plant (placed_in sample) 0).calls ≡ 1
unfolding tokens_of lex step start first_token reserved_word used_word is_unused longest_mark literal_word first_breach first_range_breach turn_bounds
first_calls = refl

second_calls : (limits_at default_plant (placed_in sample) 1).calls ≡ 0
unfolding tokens_of lex step start first_token reserved_word used_word is_unused longest_mark literal_word first_breach first_range_breach turn_bounds
second_calls = refl

second_outputs : (limits_at default_plant (placed_in sample) 1).outputs ≡ 1
unfolding tokens_of lex step start first_token reserved_word used_word is_unused longest_mark literal_word first_breach first_range_breach turn_bounds
second_outputs = refl

-- as that of the program of the same text alone
second_cycles : (limits_at default_plant (placed_in sample) 1).cycles ≡ 295
unfolding tokens_of lex step start first_token reserved_word used_word is_unused longest_mark literal_word first_breach first_range_breach turn_bounds
second_cycles = refl
