-- What mail files give is lawful.
use Rattle.std.specs.Prelude.{◌==◌, ◌&&◌, ◌||◌, not, slice_index}
use Rattle.std.specs.Option.{option_and_then}
use Rattle.std.specs.Str.{bytes_eq}
use Rattle.std.proofs.Common.{◌≡◌, ◌<◌, ◌+◌, ℕ, zero, suc, Bool, true, false, nat_lt, List, [], ◌∷◌, ◌++◌, length, map, get_or, slice_get, Option, None, Some, option_map, Result}
use Rattle.std.proofs.Common.{Ok, Err, codes, refl, sym, ap, subst, ◌∙◌, arith, ◌⊎◌, inl, inr, length-append}
use Rattle.std.proofs.lemmas.Bool.{cases_Bool, ltb-true, eq-eqb}
use Rattle.std.proofs.lemmas.List.{get_or-map}
use Rattle.std.proofs.lemmas.List.Elements.{All-push}
use Rattle.std.proofs.lemmas.List.Quantifiers.{position-Some}
use Rattle.std.proofs.lemmas.Option.{get_or_from_slice_get, none-some, same_Some}
use Rattle.prem_line.specs.Chain.{◌>>=◌, wanted, holds}
use Rattle.prem_line.specs.Lines.{lines_of, words_of, is_skipped, is_text, first_of}
use Rattle.prem_line.specs.Numbers.{number_of}
use Rattle.prem_line.proofs.Chain.{same_Ok, no_value, bound, held, found}
use Rattle.prem_plant.proofs.Apartness.{not_false}
use Rattle.prem_set.specs.Run.Names.{KnownNames, place_of, task_of, device_of}
use Rattle.prem_set.proofs.RunLemmas.Lawful.{within}
use Rattle.prem_mail.specs.declared.feed.Feed.{Feed}
use Rattle.prem_mail.specs.declared.fail.MailWhich.{MailWhich}
use Rattle.prem_mail.specs.declared.fail.MailWhich.TheVariants as which
use Rattle.prem_mail.specs.MailFile.{FeedWords, feed_words, is_of, is_fed, feeds_size, feed_of, fed_words, words_read, line_read, at_line, lines_read, feeds_of}
use Rattle.prem_mail.specs.Feeds.{IsFeed, AreOnce, AreFeeds}

abbrev lines_in : KnownNames → List ℕ
lines_in names = map (λ (d : List ℕ × ℕ). d.1) names.devices

abbrev Are : KnownNames → List Feed → Type 0
Are names feeds = AreFeeds (length names.tasks) (lines_in names) feeds

-- ---- one feed

-- the device is there, with so many lines
record Known (names : KnownNames) (d : ℕ × ℕ) : Type 0 where
  there : d.0 < length names.devices
  lines : slice_index (lines_in names) d.0 ≡ d.1

known : (names : KnownNames) (word : List ℕ) (d : ℕ × ℕ) → device_of names word ≡ Some d → Known names d
known names word d is = at (place_of (map (λ d. d.0) names.devices) word) is
  where
    entry : (n : ℕ) (o : Option (List ℕ × ℕ)) → slice_get names.devices n ≡ o → option_map (λ (x : List ℕ × ℕ). (n, x.1)) o ≡ Some d → Known names d
    entry n None none is = absurd (none-some d is)
    entry n (Some x) there is =
        let same : (n, x.1) ≡ d = same_Some (n, x.1) d is in
        let inside : n < length names.devices = within names.devices n x there in
        let at_n : get_or names.devices n x ≡ x = get_or_from_slice_get names.devices n x x there in
        let lines : slice_index (lines_in names) n ≡ x.1 = get_or-map (λ (e : List ℕ × ℕ). e.1) names.devices n x 0 inside ∙ ap (λ (e : List ℕ × ℕ). e.1) at_n in
        subst (λ (e : ℕ × ℕ). Known names e) same (record { there = inside; lines = lines })

    at : (o : Option ℕ) → option_and_then (λ n. option_map (λ (x : List ℕ × ℕ). (n, x.1)) (slice_get names.devices n)) o ≡ Some d → Known names d
    at None is = absurd (none-some d is)
    at (Some n) is = entry n (slice_get names.devices n) refl is

-- what a feed behind others keeps
record Behind (names : KnownNames) (have : List Feed) (f : Feed) : Type 0 where
  feed : IsFeed (length names.tasks) (lines_in names) f
  new : is_fed have f.device f.line ≡ false
  few : length have < feeds_size

stated : (names : KnownNames) (have : List Feed) (t line : ℕ) (d : ℕ × ℕ) (f : Feed) → t < length names.tasks → Known names d →
    (holds which.Slot (nat_lt line d.1) line >>= λ l. holds which.Twice (not (is_fed have d.0 l)) l >>= λ l. holds which.Limit
    (nat_lt (length have) feeds_size) (record { device = d.0; line = l; task = t })) ≡ Ok f → Behind names have f
stated names have t line d f inside k is =
    bound (holds which.Slot (nat_lt line d.1) line)
    (λ l. holds which.Twice (not (is_fed have d.0 l)) l >>= λ l. holds which.Limit (nat_lt (length have) feeds_size)
    (record { device = d.0; line = l; task = t })) f is (λ l slot rest.
    let s = held which.Slot (nat_lt line d.1) line l slot in
    bound (holds which.Twice (not (is_fed have d.0 l)) l) (λ l. holds which.Limit (nat_lt (length have) feeds_size) (record { device = d.0; line = l; task = t })) f rest (λ m twice more.
    let w = held which.Twice (not (is_fed have d.0 l)) l m twice in
    let z = held which.Limit (nat_lt (length have) feeds_size) (record { device = d.0; line = m; task = t }) f more in
    let low : line < d.1 = ltb-true line d.1 s.0 in
    let at_m : line ≡ m = s.1 ∙ w.1 in
    let count : length (lines_in names) ≡ length names.devices = lengths names.devices in
    let there : d.0 < length names.devices = k.there in
    let lines : slice_index (lines_in names) d.0 ≡ d.1 = k.lines in
    subst (Behind names have) z.1 (
    record {
      feed = record { device = omega (arith, there, count); line = omega (arith, low, at_m, lines); task = inside };
      new = subst (λ i. is_fed have d.0 i ≡ false) w.1 (not_false _ w.0);
      few = ltb-true (length have) feeds_size z.0;
    })))
  where
    lengths : (xs : List (List ℕ × ℕ)) → length (map (λ (e : List ℕ × ℕ). e.1) xs) ≡ length xs
    lengths [] = refl
    lengths (x ∷ xs) = ap suc (lengths xs)

feed_behind : (names : KnownNames) (have : List Feed) (words : FeedWords) (f : Feed) → feed_of names have words ≡ Ok f → Behind names have f
unfolding feed_of
feed_behind names have words f is =
    bound (wanted which.Task (task_of names words.task)) (λ t. wanted which.Device (device_of names words.device) >>= λ d. wanted which.Number (number_of words.line) >>= λ line.
    holds which.Slot (nat_lt line d.1) line >>= λ l. holds which.Twice (not (is_fed have d.0 l)) l >>= λ l. holds which.Limit
    (nat_lt (length have) feeds_size) (record { device = d.0; line = l; task = t })) f is (λ t task rest1.
    bound (wanted which.Device (device_of names words.device)) (λ d. wanted which.Number (number_of words.line) >>= λ line.
    holds which.Slot (nat_lt line d.1) line >>= λ l. holds which.Twice (not (is_fed have d.0 l)) l >>= λ l. holds which.Limit
    (nat_lt (length have) feeds_size) (record { device = d.0; line = l; task = t })) f rest1 (λ d device rest2.
    bound (wanted which.Number (number_of words.line)) (λ line.
    holds which.Slot (nat_lt line d.1) line >>= λ l. holds which.Twice (not (is_fed have d.0 l)) l >>= λ l. holds which.Limit
    (nat_lt (length have) feeds_size) (record { device = d.0; line = l; task = t })) f rest2 (λ line at_line rest3.
    stated names have t line d f (position-Some (bytes_eq words.task) names.tasks t [] (found which.Task (task_of names words.task) t task)).0
    (known names words.device d (found which.Device (device_of names words.device) d device)) rest3)))

-- ---- feeds

or_parts : (a b : Bool) → (a || b) ≡ false → (a ≡ false) × (b ≡ false)
or_parts false b e = (refl, e)
or_parts true b e = absurd (let z : true ≡ false = e in cc)

differs : (have : List Feed) (f g : Feed) (i : ℕ) → is_fed have f.device f.line ≡ false → slice_get have i ≡ Some g → g.device ≡ f.device → g.line ≡ f.line → ⊥
differs [] f g i none there ed el = cc
differs (h ∷ hs) f g zero none there ed el =
    let same : h ≡ g = cc in
    let o = or_parts (is_of f.device f.line h) (is_fed hs f.device f.line) none in
    let a : (h.device == f.device) ≡ true = eq-eqb h.device f.device (ap (λ (x : Feed). x.device) same ∙ ed) in
    let b : (h.line == f.line) ≡ true = eq-eqb h.line f.line (ap (λ (x : Feed). x.line) same ∙ el) in
    let yes : is_of f.device f.line h ≡ true = ap (λ x. x && (h.line == f.line)) a ∙ b in
    let z : true ≡ false = sym yes ∙ o.0 in
    cc
differs (h ∷ hs) f g (suc i) none there ed el = differs hs f g i (or_parts (is_of f.device f.line h) (is_fed hs f.device f.line) none).1 there ed el

-- where an item of a list with one more stands
record Place (have : List Feed) (f g : Feed) (i : ℕ) : Type 0 where
  old : (slice_get have i ≡ Some g) ⊎ ((i ≡ length have) × (f ≡ g))

place : (have : List Feed) (f g : Feed) (i : ℕ) → slice_get (have ++ f ∷ []) i ≡ Some g → Place have f g i
place [] f g zero there = let same : f ≡ g = cc in record { old = inr (refl, same) }
place [] f g (suc i) there = cc
place (h ∷ hs) f g zero there = record { old = inl there }
place (h ∷ hs) f g (suc i) there = record { old = later (place hs f g i there).old }
  where
    later : (slice_get hs i ≡ Some g) ⊎ ((i ≡ length hs) × (f ≡ g)) → (slice_get hs i ≡ Some g) ⊎ ((suc i ≡ suc (length hs)) × (f ≡ g))
    later (inl a) = inl a
    later (inr b) = inr (ap suc b.0, b.1)

once_more : (have : List Feed) (f : Feed) → is_fed have f.device f.line ≡ false → AreOnce have → AreOnce (have ++ f ∷ [])
once_more have f none once i j g h at_i at_j ed el = by (place have f g i at_i).old (place have f h j at_j).old
  where
    by : (slice_get have i ≡ Some g) ⊎ ((i ≡ length have) × (f ≡ g)) → (slice_get have j ≡ Some h) ⊎ ((j ≡ length have) × (f ≡ h)) → i ≡ j
    by (inl a) (inl b) = once i j g h a b ed el
    by (inl a) (inr b) = absurd (differs have f g i none a (ed ∙ ap (λ (x : Feed). x.device) (sym b.1)) (el ∙ ap (λ (x : Feed). x.line) (sym b.1)))
    by (inr a) (inl b) = absurd (differs have f h j none b (sym ed ∙ ap (λ (x : Feed). x.device) (sym a.1)) (sym el ∙ ap (λ (x : Feed). x.line) (sym a.1)))
    by (inr a) (inr b) = a.0 ∙ sym b.0

one_more : (names : KnownNames) (have : List Feed) (f : Feed) → Behind names have f → Are names have → Are names (have ++ f ∷ [])
one_more names have f b are =
    let few : length have < feeds_size = b.few in
    let long = length-append have (f ∷ []) in
    record { few = omega (arith, few, long); each = All-push (IsFeed (length names.tasks) (lines_in names)) have f are.each b.feed; once = once_more have f b.new are.once }

-- ---- lines

fed_keep : (names : KnownNames) (have next : List Feed) (words : List (List ℕ)) → fed_words names have words ≡ Ok next → Are names have → Are names next
unfolding fed_words
fed_keep names have next words is are =
    bound (wanted which.Word (feed_words words)) (λ w. feed_of names have w >>= λ f. Ok (have ++ f ∷ [])) next is (λ w at_words rest.
    bound (feed_of names have w) (λ f. Ok (have ++ f ∷ [])) next rest (λ f read more.
    subst (Are names) (same_Ok (have ++ f ∷ []) next more) (one_more names have f (feed_behind names have w f read) are)))

words_keep : (names : KnownNames) (have next : List Feed) (first : List ℕ) (words : List (List ℕ)) → words_read names have first words ≡ Ok next → Are names have → Are names next
words_keep names have next first words is are =
    elim (cases_Bool (bytes_eq first (codes "feed"))) [
      | inl feed ↦ fed_keep names have next words (rw feed at is) are
      | inr other ↦ absurd (no_value which.Word next (rw other at is))
    ]

line_keeps : (names : KnownNames) (have next : List Feed) (line : List ℕ) → line_read names have line ≡ Ok next → Are names have → Are names next
unfolding line_read
line_keeps names have next line is are =
    elim (cases_Bool (is_skipped line)) [
      | inl skipped ↦ subst (Are names) (same_Ok have next (rw skipped at is)) are
      | inr kept ↦ elim (cases_Bool (is_text line)) [
        | inl text ↦ bound (wanted which.Word (first_of (words_of line))) (λ w. words_read names have w.0 w.1) next (rw (kept, text) at is)
            (λ w first rest. words_keep names have next w.0 w.1 rest are)
        | inr other ↦ absurd (no_value which.Text next (rw (kept, other) at is))
      ]
    ]

lines_keep : (names : KnownNames) (n : ℕ) (have last : List Feed) (lines : List (List ℕ)) → lines_read names n have lines ≡ Ok last → Are names have → Are names last
unfolding lines_read
lines_keep names n have last [] is are = subst (Are names) (same_Ok have last is) are
lines_keep names n have last (line ∷ lines) is are =
    passes (line_read names have line) is (λ next read rest. lines_keep names (n + 1) next last lines rest (line_keeps names have next line read are))
  where
    passes : {P : Type 0} (r : Result (List Feed) MailWhich) → at_line n r (λ next. lines_read names (n + 1) next lines) ≡ Ok last →
        ((next : List Feed) → r ≡ Ok next → lines_read names (n + 1) next lines ≡ Ok last → P) → P
    passes (Ok next) is go = go next refl is
    passes (Err w) is go = absurd (no_value (n, w) last is)

-- the feeds of a mail file
pub feeds_are_lawful : (bytes : List ℕ) (names : KnownNames) (feeds : List Feed) → feeds_of bytes names ≡ Ok feeds → AreFeeds (length names.tasks) (map (λ (d : List ℕ × ℕ). d.1) names.devices) feeds
feeds_are_lawful bytes names feeds is =
    lines_keep names 1 [] feeds (lines_of bytes) is
    (record {
      few = omega arith;
      each = λ k d lt. absurd (omega (arith, lt));
      once = λ i j f g at_i at_j ed el. absurd (let x : None ≡ Some f = at_i in cc);
    })
