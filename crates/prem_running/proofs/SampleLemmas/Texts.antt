-- Texts and tasks, put together from their parts.
use Rattle.std.specs.Prelude.{codes, decimal}
use Rattle.std.specs.List.{join_by}
use Rattle.std.proofs.Common.{◌≡◌, ℕ, List, [], ◌∷◌, ◌++◌, append_assoc, ap, ap₂, sym, ◌∙◌}
use Rattle.prem_tasks.specs.Broken.{TaskText}
use Rattle.prem_running.specs.Sample.Trace.{filter_lines, program_text, behind_task, task_at, task_names, tasks_from}

regroup : (b j e f : List ℕ) → (b ++ j) ++ (e ++ f) ≡ (b ++ (j ++ e)) ++ f
regroup b j e f = sym (append_assoc (b ++ j) e f) ∙ ap (λ l. l ++ f) (append_assoc b j e)

pub program_is : (coefficients listed filter whole : List ℕ) → listed ≡ codes "short coef[16] = {" ++ join_by decimal (codes ", ") coefficients →
    filter ≡ codes "};\n" ++ filter_lines → whole ≡ listed ++ filter → whole ≡ program_text coefficients
program_is coefficients listed filter whole front back is =
    is
    ∙ ap₂ (λ (l m : List ℕ). l ++ m) front back
    ∙ regroup (codes "short coef[16] = {") (join_by decimal (codes ", ") coefficients) (codes "};\n") filter_lines

-- four tasks, one behind another
pub four_tasks : (x x1 x2 x3 : ℕ) (none one two three four : List TaskText) → none ≡ [] → one ≡ none ++ task_at (codes "t0") x ∷ [] → x1 ≡ behind_task x →
    two ≡ one ++ task_at (codes "t1") x1 ∷ [] → x2 ≡ behind_task x1 → three ≡ two ++ task_at (codes "t2") x2 ∷ [] → x3 ≡ behind_task x2 →
    four ≡ three ++ task_at (codes "t3") x3 ∷ [] → four ≡ tasks_from task_names x
four_tasks x x1 x2 x3 none one two three four is t0 s1 t1 s2 t2 s3 t3 =
    let a = task_at (codes "t0") in
    let b = task_at (codes "t1") in
    let c = task_at (codes "t2") in
    let d = task_at (codes "t3") in
    let second : x2 ≡ behind_task (behind_task x) = s2 ∙ ap behind_task s1 in
    let third : x3 ≡ behind_task (behind_task (behind_task x)) = s3 ∙ ap behind_task second in
    let first_one : one ≡ a x ∷ [] = t0 ∙ ap (λ (l : List TaskText). l ++ a x ∷ []) is in
    let first_two : two ≡ a x ∷ b x1 ∷ [] = t1 ∙ ap (λ (l : List TaskText). l ++ b x1 ∷ []) first_one in
    let first_three : three ≡ a x ∷ b x1 ∷ c x2 ∷ [] = t2 ∙ ap (λ (l : List TaskText). l ++ c x2 ∷ []) first_two in
    let all : four ≡ a x ∷ b x1 ∷ c x2 ∷ d x3 ∷ [] = t3 ∙ ap (λ (l : List TaskText). l ++ d x3 ∷ []) first_three in
    all
    ∙ ap (λ y. a x ∷ b y ∷ c x2 ∷ d x3 ∷ []) s1
    ∙ ap (λ y. a x ∷ b (behind_task x) ∷ c y ∷ d x3 ∷ []) second
    ∙ ap (λ y. a x ∷ b (behind_task x) ∷ c (behind_task (behind_task x)) ∷ d y ∷ []) third
