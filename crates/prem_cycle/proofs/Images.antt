-- The images of the worked runs: contents as words, and what stands beside them.
use Rattle.std.proofs.Common.{ℕ, ◌/◌, List, [], ◌∷◌, ◌++◌}
use Rattle.prem_cycle.proofs.Prelude.{run_of, Setup, MachineState, rule_in, Request, DeviceRecord, TaskRecord, bytes_of, Plant, Lru, Rv32i, codes, slice_set}
use Rattle.std.specs.Prelude.{Some, None, replicate}

-- ---- contents

abbrev pub bytes_in : List ℕ → List ℕ
bytes_in [] = []
bytes_in (word ∷ words) = bytes_of 4 word ++ bytes_in words

-- another word at an address
abbrev pub patched : ℕ → ℕ → List ℕ → List ℕ
patched address word words = slice_set words (address / 4) word

-- `void job(void){ out(2+3); }`: the start at 0, the job at 8, the stack from 48 to 64
abbrev pub out_five : List ℕ
out_five =
    0x008000ef ∷ 0x0000300b ∷ 0xff010113 ∷ 0x00112023 ∷ 0x00200513 ∷ 0x00300593
    ∷ 0x00b50533 ∷ 0x0005500b ∷ 0x00012083 ∷ 0x01010113 ∷ 0x00008067 ∷ []

-- `void job(void){ out(6*7); }` for RV32IM, at the same places
abbrev pub out_product : List ℕ
out_product =
    0x008000ef ∷ 0x0000300b ∷ 0xff010113 ∷ 0x00112023 ∷ 0x00600513 ∷ 0x00700593
    ∷ 0x02b50533 ∷ 0x0005500b ∷ 0x00012083 ∷ 0x01010113 ∷ 0x00008067 ∷ []

-- `void job(void){}`: the stack from 32 to 48
abbrev pub nothing : List ℕ
nothing =
    0x008000ef ∷ 0x0000300b ∷ 0xff010113 ∷ 0x00112023 ∷ 0x00012083 ∷ 0x01010113
    ∷ 0x00008067 ∷ []

-- a global, a marked function of stated length 491 that sets it to its argument, and a job that calls it with 7 and puts the
-- global out: the start at 0, the function at 0x08, the job at 0x2c, the stub at 0x5c, the global at 0x108, the stack from
-- 0x110 to 0x130
abbrev pub marked : List ℕ
marked =
    0x02c000ef ∷ 0x0000300b ∷ 0xff010113 ∷ 0x00112023 ∷ 0x00412503 ∷ 0x000002b7
    ∷ 0x10828293 ∷ 0x00a2a023 ∷ 0x00012083 ∷ 0x01010113 ∷ 0x00008067 ∷ 0xff010113
    ∷ 0x00112023 ∷ 0x00700513 ∷ 0xfea12a23 ∷ 0x0200026f ∷ 0x000002b7 ∷ 0x10828293
    ∷ 0x0002a503 ∷ 0x0005500b ∷ 0x00012083 ∷ 0x01010113 ∷ 0x00008067 ∷ 0x0000000b
    ∷ 0x000002b7 ∷ 0x05028293 ∷ 0x00000337 ∷ 0x10830313 ∷ 0x0062e463 ∷ 0x0100006f
    ∷ 0x0002a003 ∷ 0x01028293 ∷ 0xff1ff06f ∷ 0x000002b7 ∷ 0x00028293 ∷ 0x00000337
    ∷ 0x02c30313 ∷ 0x0062e463 ∷ 0x0100006f ∷ 0x0002a003 ∷ 0x01028293 ∷ 0xff1ff06f
    ∷ 0x000002b7 ∷ 0x11028293 ∷ 0x00000337 ∷ 0x12030313 ∷ 0x0062e463 ∷ 0x0100006f
    ∷ 0x0002a003 ∷ 0x01028293 ∷ 0xff1ff06f ∷ 0x000002b7 ∷ 0x10028293 ∷ 0x00000337
    ∷ 0x10c30313 ∷ 0x0062e463 ∷ 0x0100006f ∷ 0x0002a003 ∷ 0x01028293 ∷ 0xff1ff06f
    ∷ 0x000002b7 ∷ 0x1eb28293 ∷ 0x0002900b ∷ 0xf0dff0ef ∷ 0x0000200b ∷ 0x00020067 ∷ []
    ++ replicate 10 0

-- the same placed from 304 on, with 9 in place of 7
abbrev pub marked_behind : List ℕ
marked_behind =
    patched 0x18 0x23828293 (patched 0x34 0x00900513 (patched 0x44 0x23828293 (patched 0x64 0x18028293
    (patched 0x6c 0x23830313 (patched 0x88 0x13028293 (patched 0x90 0x15c30313 (patched 0xac 0x24028293
    (patched 0xb4 0x25030313 (patched 0xd0 0x23028293 (patched 0xd8 0x23c30313 marked))))))))))

-- the prefetch loads replaced by fences
abbrev pub without_prefetch : List ℕ
without_prefetch =
    patched 0x78 0x0ff0000f (patched 0x9c 0x0ff0000f (patched 0xc0 0x0ff0000f (patched 0xe4 0x0ff0000f marked)))

-- a stated length of 100
abbrev pub states_hundred : List ℕ
states_hundred = patched 0xf4 0x06428293 marked

-- ---- what stands beside them

-- a plant where nothing else is stated, with a memory of so many bytes
abbrev pub plant : ℕ → Plant
plant memory = record { line = 16; sets = 64; ways = 4; fill = 10; back = 10; switch = 20; memory = memory; policy = Lru; target = Rv32i }

abbrev pub task : (period jobs entry stack : ℕ) → TaskRecord
task period jobs entry stack = record { name = codes "m"; period = period; jobs = jobs; entry = entry; stack = stack }

abbrev pub device : (cost area : ℕ) → DeviceRecord
device cost area = record { device = record { name = codes "d"; queue = 2; cost = cost; lines = 4 }; area = area }

abbrev pub alone : (memory jobs stack : ℕ) → List DeviceRecord → Setup
alone memory jobs stack devices = record { plant = plant memory; tasks = task 1000 jobs 0 stack ∷ []; devices = devices }

abbrev pub put : (cycle device line value : ℕ) → Request
put cycle device line value = record { cycle = cycle; device = device; line = line; put = Some value }

abbrev pub get : (cycle device line : ℕ) → Request
get cycle device line = record { cycle = cycle; device = device; line = line; put = None }

-- n cycles of a run on these words, without input words
abbrev pub run : Setup → List ℕ → List Request → ℕ → MachineState
run p words requests n = run_of (rule_in p) p (bytes_in words) [] requests n
