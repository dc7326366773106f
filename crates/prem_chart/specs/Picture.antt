-- The picture of a run.
use Rattle.std.specs.Prelude.{ℕ, List, ◌++◌, codes, length}
use Rattle.std.specs.List.{flat_map}
use Rattle.prem_gate.specs.declared.request.Request.{Request}
use Rattle.prem_image.specs.declared.image.TaskRecord.{TaskRecord}
use Rattle.prem_image.specs.declared.image.DeviceRecord.{DeviceRecord}
use Rattle.prem_cycle.specs.declared.state.Stop.{Stop}
use Rattle.prem_cycle.specs.declared.state.Stop.TheVariants.{Finished, Trap, LogFull, Limit}
use Rattle.prem_cycle.specs.State.{Counts}
use Rattle.prem_cycle.specs.FactsOf.{Report}
use Rattle.prem_time.specs.declared.promises.Promise.{Promise}
use Rattle.prem_chart.specs.declared.view.View.{View}
use Rattle.prem_chart.specs.declared.view.Canvas.{Canvas}
use Rattle.prem_chart.specs.declared.note.Note.{Note}
use Rattle.prem_chart.specs.Axis.{axis_text}
use Rattle.prem_chart.specs.Head.{size_text, style_text, paper_text, title_text, keys_text, time_text, cache_text, phase_text, bus_text}
use Rattle.prem_chart.specs.Bars.{shape_text}
use Rattle.prem_chart.specs.Shapes.{interval_shapes, transfer_shapes}
use Rattle.prem_chart.specs.Phases.{windows_text, misses_text}
use Rattle.prem_chart.specs.Rows.{labels_text, all_releases, device_keys}
use Rattle.prem_chart.specs.Promises.{all_promises}

abbrev pub stop_word : Stop → List ℕ
stop_word Finished = codes "finished"
stop_word Limit = codes "stopped"
stop_word (LogFull n) = codes "full"
stop_word (Trap task pc cause) = codes "trapped"

abbrev pub counts_text : ℕ → Stop → Counts → List ℕ
counts_text cycles stop n =
    time_text cycles ++ (stop_word stop ++ (cache_text n.hits n.misses ++ (phase_text n.exec_misses n.writebacks ++ bus_text n.clashes)))

unfoldable pub head_text : Canvas → List ℕ → List DeviceRecord → Report → (cycles : ℕ) → Stop → List ℕ
head_text s set devices r cycles stop =
    size_text s ++ (style_text ++ paper_text s) ++ (title_text set ++ (counts_text cycles stop r.counts ++ (keys_text ++ device_keys devices)))

-- what is behind the bars, and the bars
unfoldable pub rows_text : Canvas → List TaskRecord → List DeviceRecord → Report → List Note → List ℕ
rows_text s tasks devices r notes =
    flat_map shape_text (interval_shapes s tasks r.intervals) ++ (windows_text s tasks notes ++ (flat_map shape_text (transfer_shapes s devices r.transfers) ++ misses_text s tasks notes))

unfoldable pub frame_text : Canvas → List TaskRecord → List ℕ
frame_text s tasks = axis_text s ++ labels_text s tasks

abbrev pub sheet_of : View → List TaskRecord → List DeviceRecord → List Promise → Canvas
sheet_of v tasks devices promises = record { view = v; tasks = length tasks; devices = length devices; promised = length promises }

unfoldable pub end_text : List ℕ
end_text = codes "</svg>\n"

abbrev pub sheet_text : Canvas → List ℕ → List TaskRecord → List DeviceRecord → Report → (cycles : ℕ) → Stop → List Note → List Request → List Promise → List ℕ
sheet_text s set tasks devices r cycles stop notes requests promises =
    head_text s set devices r cycles stop ++ (frame_text s tasks ++ (rows_text s tasks devices r notes ++ (all_releases s tasks
    ++ (all_promises s devices requests cycles promises ++ end_text))))

-- of a run of the set of this name that took so many cycles, with these requests and what is promised of them
abbrev pub chart_text : View → List ℕ → List TaskRecord → List DeviceRecord → Report → (cycles : ℕ) → Stop → List Note → List Request → List Promise → List ℕ
chart_text v set tasks devices r cycles stop notes requests promises =
    sheet_text (sheet_of v tasks devices promises) set tasks devices r cycles stop notes requests promises
