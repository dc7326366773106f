-- What a function stands among, as it lies in memory.
use Rattle.std.specs.Prelude.{◌≡◌, ℕ, ◌<◌, Bool, true, false, List, [], ◌∷◌, length, map}
use Rattle.prem_analysis.specs.Prelude.{items_of, Site, Area, Watch, watches_of, is_in, unlimited, global_of, routines_of, resolved_of}
use Rattle.prem_analysis.specs.declared.ranging.site.Area.{Area as AreaTree}
use Rattle.prem_analysis.specs.declared.ranging.site.Marked.{Marked}
use Rattle.prem_analysis.specs.declared.ranging.site.Site.{Site as SiteTree}
use Rattle.prem_tree.specs.declared.resolve.resolved.Resolved.{Resolved}

abbrev pub area_of : AreaTree → Area
area_of a = record { global = a.global; low = a.low; high = a.high }

abbrev pub watch_of : Marked → Watch
watch_of m = record { function = m.function; areas = map area_of (items_of m.areas) }

abbrev pub watch_where : Bool → Marked → List Watch → List Watch
watch_where true m others = watch_of m ∷ others
watch_where false m others = others

-- the marked functions that are, or reach, a function
abbrev pub watches_at : ℕ → List Marked → List Watch
watches_at n [] = []
watches_at n (m ∷ ms) = watch_where (is_in m.reached.items n) m (watches_at n ms)

abbrev pub site_of : SiteTree → Site
site_of s = record { globals = map (λ g. global_of g.now) s.globals.now; routines = routines_of unlimited.turns 0 s.routines.now; watches = watches_at s.number s.marked.now }

-- the marked functions in memory are those of the program that watch over each function
pub record AreWatched (r : Resolved) (marked : List Marked) : Type 0 where
  pub each : (n : ℕ) → n < length (items_of r.routines) → watches_at n marked ≡ watches_of (resolved_of unlimited.turns r) n
