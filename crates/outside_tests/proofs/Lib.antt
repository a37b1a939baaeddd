mod SilentFiles
