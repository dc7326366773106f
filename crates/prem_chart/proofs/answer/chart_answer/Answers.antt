use Rattle.prem_chart.proofs.answer.chart_answer.Goals as goal

pub tell_files-requires : goal.tell_files-requires
tell_files-requires g c set = c.requires
