mod CommonCutLaws
mod CutRowLaws
mod CutWindowsLaws
